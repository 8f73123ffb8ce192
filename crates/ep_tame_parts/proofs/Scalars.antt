-- Each leaf of an object is a scalar in it.
use Rattle.std.proofs.Common.{◌≡◌, zero, suc, ◌+◌, ◌*◌, ◌<◌, ◌≤◌, Bool, true, false, ◌&&◌, ◌==◌, ◌⊎◌, inl, inr, ℕ, ⊎_elim}
use Rattle.std.proofs.Common.{List, [], ◌∷◌, ◌++◌, length, slice_get, Option, Some, None, refl, sym}
use Rattle.std.proofs.Common.{ap, ◌∙◌, subst, arith}
use Rattle.std.specs.Prelude.{option_map, option_and_then, unwrap_or}
use Rattle.std.specs.Int.{next_multiple_of}
use Rattle.std.specs.List.{list_any}
use Rattle.std.proofs.Math.Nat.{mul-suc, mul-zero}
use Rattle.std.proofs.lemmas.Bool.{and_from, eq-eqb, or_left, or_right}
use Rattle.ep_int.proofs.Basics.{some-injective}
use Rattle.ep_int.specs.declared.types.Scalar.{Scalar}
use Rattle.ep_int.specs.declared.types.Scalar.TheVariants.{Int as Number, Pointer}
use Rattle.ep_layout.specs.declared.types.Ty.{Ty}
use Rattle.ep_layout.specs.declared.types.Ty.TheVariants.{Void, Int, Ptr, Array, Aggregate}
use Rattle.ep_layout.specs.declared.types.Leaf.{Leaf}
use Rattle.ep_layout.specs.Layout.{Layout, shifted, repeated, leaves_after, array_layout, struct_layout, scalar_layout}
use Rattle.ep_layout.specs.Table.{Table, AggregateRow, MemberRow, IsBuilt, size, leaves, scalar_of}
use Rattle.ep_layout.specs.Table.{members_of, layout_of, layout_rules, at_each, at_type, at_depth}
use Rattle.ep_layout.specs.Table.{at_aggregate, at_whole}
use Rattle.ep_layout.proofs.Options.{and_then_some, map_some, same_some, at_each_some, at_each_more}
use Rattle.ep_layout.proofs.Recursion.{types_of, at_aggregate_some, at_depth_more}
use Rattle.ep_layout.proofs.Rows.{RowsAt, placed}
use Rattle.ep_cells.specs.Kill.{leaf_at}
use Rattle.ep_kinds.specs.Tame.{are_tame_types}
use Rattle.ep_kinds.specs.Rows.{IsMember, HasScalar, in_member, in_element}
use Rattle.ep_tame_laws.proofs.Found.{elements_at, aggregate_is}
use Rattle.ep_tame_laws.proofs.LeavesIn.{HasLeaf, has_leaf}
use Rattle.ep_tame_laws.proofs.Parts.{no_union}
use Rattle.ep_tame_parts.specs.Laws.{ScalarAt}

abbrev IsAt : (offset ty : ℕ) → MemberRow → Bool
IsAt q ty m = m.offset == q && m.ty == ty

-- ---- leaves of lists that are put together

in_append : (xs ys : List Leaf) (o : ℕ) (w : Scalar) → HasLeaf o w (xs ++ ys) → HasLeaf o w xs ⊎ HasLeaf o w ys
in_append [] ys o w h = inr h
in_append (x ∷ xs) ys o w (inl h) = inl (inl h)
in_append (x ∷ xs) ys o w (inr h) = ⊎_elim (λ i. inl (inr i)) (λ i. inr i) (in_append xs ys o w h)

in_shifted : (k : ℕ) (xs : List Leaf) (o : ℕ) (w : Scalar) → HasLeaf o w (shifted k xs)
    → (x : ℕ) × (o ≡ k + x) × HasLeaf x w xs
in_shifted k [] o w h = absurd h
in_shifted k (l ∷ xs) o w (inl h) = (l.offset, sym h.0, inl (refl, h.1))
in_shifted k (l ∷ xs) o w (inr h) = let r = in_shifted k xs o w h in (r.0, r.1, inr r.2)

record InElement (n u : ℕ) (xs : List Leaf) (o : ℕ) (w : Scalar) : Type 0 where
  pub index : ℕ
  pub inner : ℕ
  pub below : index < n
  pub at : o ≡ u * index + inner
  pub leaf : HasLeaf inner w xs

in_repeated : (n u : ℕ) (xs : List Leaf) (o : ℕ) (w : Scalar) → HasLeaf o w (repeated n u xs) → InElement n u xs o w
in_repeated zero u xs o w h = absurd h
in_repeated (suc n) u xs o w h = by_part (in_append xs (shifted u (repeated n u xs)) o w h) (in_repeated n u xs)
  where
    by_part : HasLeaf o w xs ⊎ HasLeaf o w (shifted u (repeated n u xs))
        → ((o : ℕ) (w : Scalar) → HasLeaf o w (repeated n u xs) → InElement n u xs o w)
        → InElement (suc n) u xs o w
    by_part (inl i) later =
        let z = mul-zero u in
        record { index = 0; inner = o; below = omega arith; at = omega (arith, z); leaf = i }
    by_part (inr i) later =
        let s = in_shifted u (repeated n u xs) o w i in
        let r = later s.0 w s.2 in
        let e = mul-suc u r.index in
        let a = s.1 in
        let b = r.at in
        let l = r.below in
        record {
          index = suc r.index;
          inner = r.inner;
          below = omega (arith, l);
          at = omega (arith, a, b, e);
          leaf = r.leaf;
        }

record InRow (f : ℕ → Option Layout) (ms : List MemberRow) (o : ℕ) (w : Scalar) : Type 0 where
  pub offset : ℕ
  pub ty : ℕ
  pub inner : ℕ
  pub layout : Layout
  pub is_at : list_any (IsAt offset ty) ms ≡ true
  pub laid : f ty ≡ Some layout
  pub place : o ≡ offset + inner
  pub leaf : HasLeaf inner w layout.leaves

in_rows : (f : ℕ → Option Layout) (e : ℕ) (ls : List Layout) (ms : List MemberRow) → at_each f (types_of ms) ≡ Some ls
    → RowsAt false e ls ms → (o : ℕ) (w : Scalar) → HasLeaf o w (leaves_after e ls) → InRow f ms o w
in_rows f e [] ms h r o w i = absurd i
in_rows f e (l ∷ ls) [] h r o w i = absurd r
in_rows f e (l ∷ ls) (m ∷ ms) h r o w i =
    let x = at_each_some f m.ty (types_of ms) (l ∷ ls) h in
    let same : x.0 ≡ l = cc in
    let more : x.1 ≡ ls = cc in
    by_part (x.2 ∙ ap Some same) (in_append (shifted k l.leaves) (leaves_after (k + l.size) ls) o w i)
    (λ i. in_rows f (k + l.size) ls ms (x.3 ∙ ap Some more) r.1 o w i)
  where
    k : ℕ
    k = next_multiple_of e l.align

    by_part : f m.ty ≡ Some l → HasLeaf o w (shifted k l.leaves) ⊎ HasLeaf o w (leaves_after (k + l.size) ls)
        → (HasLeaf o w (leaves_after (k + l.size) ls) → InRow f ms o w) → InRow f (m ∷ ms) o w
    by_part one (inl i) later =
        let s = in_shifted k l.leaves o w i in
        let a = s.1 in
        let b = r.0 in
        record {
          offset = m.offset;
          ty = m.ty;
          inner = s.0;
          layout = l;
          is_at =
              or_left (IsAt m.offset m.ty m) (list_any (IsAt m.offset m.ty) ms)
              (and_from (m.offset == m.offset) (m.ty == m.ty) (eq-eqb m.offset m.offset refl)
              (eq-eqb m.ty m.ty refl));
          laid = one;
          place = omega (arith, a, b);
          leaf = s.2;
        }
    by_part one (inr i) later =
        let s = later i in
        record {
          offset = s.offset;
          ty = s.ty;
          inner = s.inner;
          layout = s.layout;
          is_at = or_right (IsAt s.offset s.ty m) (list_any (IsAt s.offset s.ty) ms) s.is_at;
          laid = s.laid;
          place = s.place;
          leaf = s.leaf;
        }

module _ (t : Table) (built : IsBuilt t) (tame : are_tame_types t ≡ true) where
  abbrev most : ℕ
  most = length t.types + length t.completed

  abbrev deep : ℕ → ℕ → Option Layout
  deep d n = at_depth (layout_rules t.model) t d n

  -- what is known of all parts at a depth
  abbrev FindsAll : (ℕ → Option Layout) → Type 0
  FindsAll f = (n : ℕ) (l : Layout) → f n ≡ Some l → (o : ℕ) (w : Scalar) → HasLeaf o w l.leaves → ScalarAt t n o w

  of_scalar : (n : ℕ) (v : Scalar) → scalar_of t n ≡ Some v → (l : Layout) → scalar_layout t.model v ≡ l → (o : ℕ)
      (w : Scalar) → HasLeaf o w l.leaves → ScalarAt t n o w
  of_scalar n v is l same o w i =
      by_place (subst (λ (x : Layout). HasLeaf o w x.leaves) (sym same) i)
    where
      by_place : ((0 ≡ o) × (v ≡ w)) ⊎ ⊥ → ScalarAt t n o w
      by_place (inl h) = record {
        scalar = n;
        is = is ∙ ap Some h.1;
        stands = λ whole k at.
            (let a = h.0 in let e : k ≡ k + o = omega (arith, a) in subst (λ x. HasScalar t whole x n) e at);
      }
      by_place (inr h) = absurd h

  of_element : (f : ℕ → Option Layout) → FindsAll f → (n e c : ℕ) → slice_get t.types n ≡ Some (Array e c)
      → (x l : Layout) → f e ≡ Some x → size t e ≡ Some x.size → array_layout c x ≡ l → (o : ℕ) (w : Scalar)
      → HasLeaf o w l.leaves → ScalarAt t n o w
  of_element f find n e c h x l one sz same o w i =
      let r = in_repeated c x.size x.leaves o w (subst (λ (y : Layout). HasLeaf o w y.leaves) (sym same) i) in
      let s = find e x one r.inner w r.leaf in
      record {
        scalar = s.scalar;
        is = s.is;
        stands = λ whole k at.
            (let p = r.at in
            let y : k + x.size * r.index + r.inner ≡ k + o = omega (arith, p) in
            subst (λ z. HasScalar t whole z s.scalar) y
            (s.stands whole (k + x.size * r.index)
            (in_element k n e c r.index x.size at (elements_at t n e c h) r.below sz)));
      }

  of_member : (f : ℕ → Option Layout) → FindsAll f → (n a : ℕ) → slice_get t.types n ≡ Some (Aggregate a)
      → (ms : List MemberRow) → members_of t a ≡ ms → (ls : List Layout) → at_each f (types_of ms) ≡ Some ls
      → RowsAt false 0 ls ms → (l : Layout) → struct_layout ls ≡ l → (o : ℕ) (w : Scalar) → HasLeaf o w l.leaves
      → ScalarAt t n o w
  of_member f find n a h ms own ls each rows l same o w i =
      let r = in_rows f 0 ls ms each rows o w (subst (λ (y : Layout). HasLeaf o w y.leaves) (sym same) i) in
      let s = find r.ty r.layout r.laid r.inner w r.leaf in
      let m : IsMember t n r.offset r.ty =
      (a, aggregate_is t n a h, ap (list_any (IsAt r.offset r.ty)) own ∙ r.is_at) in
      record {
        scalar = s.scalar;
        is = s.is;
        stands = λ whole k at.
            (let p = r.place in
            let y : k + r.offset + r.inner ≡ k + o = omega (arith, p) in
            subst (λ z. HasScalar t whole z s.scalar) y
            (s.stands whole (k + r.offset) (in_member k n r.offset r.ty at m)));
      }

  of_aggregate : (f : ℕ → Option Layout) → ((n : ℕ) (x : Layout) → f n ≡ Some x → layout_of t n ≡ Some x)
      → FindsAll f → (n a : ℕ) → slice_get t.types n ≡ Some (Aggregate a) → (g : AggregateRow)
      → slice_get t.aggregates a ≡ Some g → (l : Layout) → at_aggregate (layout_rules t.model) f g ≡ Some l → (o : ℕ)
      (w : Scalar) → HasLeaf o w l.leaves → ScalarAt t n o w
  of_aggregate f more find n a h g row l is o w i =
      let m = at_aggregate_some (layout_rules t.model) f g l is in
      let struct = no_union t built tame a g row in
      let whole : at_whole (layout_rules t.model) f false (types_of m.0) ≡ Some l =
      subst (λ u. at_whole (layout_rules t.model) f u (types_of m.0) ≡ Some l) struct m.2 in
      let s = map_some struct_layout (at_each f (types_of m.0)) l whole in
      let p = placed t built a g m.0 row m.1 in
      let same : p.layouts ≡ s.0 =
      same_some p.layouts s.0 (at_each (layout_of t) (types_of m.0)) p.each
      (at_each_more f (layout_of t) more (types_of m.0) s.0 s.1) in
      let rows : RowsAt false 0 s.0 m.0 =
      subst (λ u. RowsAt u 0 s.0 m.0) struct (subst (λ ls. RowsAt g.is_union 0 ls m.0) same p.rows) in
      of_member f find n a h m.0
      (ap (λ o. unwrap_or (option_and_then (λ (g : AggregateRow). g.members) o) []) row
      ∙ ap (λ o. unwrap_or o []) m.1) s.0 s.1 rows l s.2 o w i

  of_type : (f : ℕ → Option Layout) → ((n : ℕ) (x : Layout) → f n ≡ Some x → layout_of t n ≡ Some x) → FindsAll f
      → (n : ℕ) (k : Ty) → slice_get t.types n ≡ Some k → (l : Layout)
      → at_type (layout_rules t.model) t f k ≡ Some l → (o : ℕ) (w : Scalar) → HasLeaf o w l.leaves → ScalarAt t n o w
  of_type f more find n Void h l is o w i = absurd cc
  of_type f more find n (Int v) h l is o w i =
      of_scalar n (Number v) (rw h refl) l (some-injective is) o w i
  of_type f more find n (Ptr e) h l is o w i = of_scalar n Pointer (rw h refl) l (some-injective is) o w i
  of_type f more find n (Array e c) h l is o w i =
      let s = map_some (array_layout c) (f e) l is in
      of_element f find n e c h s.0 l s.1 (ap (option_map (λ (l : Layout). l.size)) (more e s.0 s.1)) s.2 o w i
  of_type f more find n (Aggregate a) h l is o w i =
      let s = and_then_some (at_aggregate (layout_rules t.model) f) (slice_get t.aggregates a) l is in
      of_aggregate f more find n a h s.0 s.1 l s.2 o w i

  at_depths : (d : ℕ) → d ≤ most → FindsAll (deep d)
  unfolding at_depth
  at_depths zero small n l h o w i = absurd cc
  at_depths (suc d) small n l h o w i =
      let s = and_then_some (at_type (layout_rules t.model) t (deep d)) (slice_get t.types n) l h in
      of_type (deep d)
      (λ n x e. at_depth_more (layout_rules t.model) t most d n x (omega (arith, small)) e)
      (at_depths d (omega (arith, small))) n s.0 s.1 l s.2 o w i

  at_types : (n : ℕ) (r : Option Layout) → layout_of t n ≡ r → (o : ℕ) (w : Scalar)
      → HasLeaf o w (unwrap_or (option_map (λ (l : Layout). l.leaves) r) []) → ScalarAt t n o w
  at_types n None h o w i = absurd i
  at_types n (Some l) h o w i = at_depths most (omega arith) n l h o w i

pub leaves_are_scalars : (t : Table) → IsBuilt t → are_tame_types t ≡ true → (ty o : ℕ) (w : Scalar)
    → leaf_at (leaves t ty) o ≡ Some w → ScalarAt t ty o w
leaves_are_scalars t built tame ty o w h =
    at_types t built tame ty (layout_of t ty) refl o w (has_leaf (leaves t ty) o w h)
