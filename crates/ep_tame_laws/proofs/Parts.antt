-- Where an object's bytes and leaves lie in an object round it.
use Rattle.std.proofs.Common.{◌≡◌, ℕ, suc, ◌+◌, ◌*◌, ◌<◌, ◌≤◌, Bool, true, false, ◌&&◌, ◌||◌, if◌then◌else◌, List, []}
use Rattle.ep_int.proofs.Basics.{some-injective}
use Rattle.std.proofs.Common.{◌∷◌, slice_get, length, Option, Some, None, refl, sym, ap, ◌∙◌, subst, arith}
use Rattle.std.specs.Prelude.{option_map, option_and_then, unwrap_or, not, ◌==◌}
use Rattle.std.specs.Int.{next_multiple_of}
use Rattle.std.specs.List.{list_any, list_all}
use Rattle.std.proofs.lemmas.Bool.{eqb-true, and_parts}
use Rattle.std.proofs.Math.Nat.{mul_comm, mul-suc, mul-le-mul_left}
use Rattle.ep_int.specs.declared.types.Scalar.{Scalar}
use Rattle.ep_int.specs.declared.types.Scalar.TheVariants.{Int as Number, Pointer}
use Rattle.ep_int.specs.Types.{size_of}
use Rattle.ep_layout.specs.declared.types.Ty.{Ty}
use Rattle.ep_layout.specs.declared.types.Ty.TheVariants.{Void, Int, Ptr, Array, Aggregate}
use Rattle.ep_layout.specs.Layout.{Layout, shifted, repeated, end_of, greatest_size, scalar_layout, struct_layout}
use Rattle.ep_layout.specs.Layout.{union_layout}
use Rattle.ep_layout.specs.Table.{Table, AggregateRow, MemberRow, IsBuilt, size, leaves, scalar_of, members_of}
use Rattle.ep_layout.specs.Table.{has_member_at, layout_of, at_each, at_type, at_aggregate, at_whole, layout_rules}
use Rattle.ep_layout.specs.Pending.{rows_leaves}
use Rattle.ep_layout.proofs.Options.{at_each_some}
use Rattle.ep_layout.proofs.Recursion.{types_of}
use Rattle.ep_layout.proofs.Laid.{by_type_is}
use Rattle.ep_layout.proofs.Sizes.{element_laid}
use Rattle.ep_layout.proofs.Ordered.{leaves_ordered}
use Rattle.ep_layout.proofs.PlacingLemmas.{end_rises}
use Rattle.ep_layout.proofs.Rows.{ArePlaced, RowsAt, placed, leaves_of, rows_leaves_are, whole_leaves}
use Rattle.ep_core.proofs.Sorts.{all_at}
use Rattle.ep_cells.specs.Kill.{leaf_at}
use Rattle.ep_kinds.specs.Tame.{are_tame_types, is_array_of_holders}
use Rattle.ep_core.specs.WellFormed.{numbers_below}
use Rattle.ep_kinds.specs.Rows.{IsMember, HasScalar, here, in_member, in_element}
use Rattle.ep_tame_laws.proofs.Found.{array_at, array_size, aggregate_at, none_some}
use Rattle.ep_tame_laws.proofs.LeavesIn.{HasLeaf, has_leaf, leaf_is_at, has_left, has_right, has_shifted, has_repeated}

-- ---- members

-- the layout of an aggregate, from those of its members
pub record IsOfMembers (t : Table) (n a : ℕ) : Type 0 where
  pub row : AggregateRow
  pub members : List MemberRow
  pub there : slice_get t.aggregates a ≡ Some row
  pub own : row.members ≡ Some members
  pub placed : ArePlaced t row.is_union members
  pub layout : layout_of t n ≡ Some ((if row.is_union then union_layout else struct_layout) placed.layouts)

abbrev IsAt : (offset ty : ℕ) → MemberRow → Bool
IsAt q ty m = m.offset == q && m.ty == ty

abbrev rows_of : Option AggregateRow → List MemberRow
rows_of o = unwrap_or (option_and_then (λ (g : AggregateRow). g.members) o) []

module _ (t : Table) (built : IsBuilt t) where
  pub of_members : (n a q ty : ℕ) → slice_get t.types n ≡ Some (Aggregate a) → has_member_at t a q ty ≡ true
      → IsOfMembers t n a
  of_members n a q ty h some = by_row (slice_get t.aggregates a) refl some
    where
      by_members : (g : AggregateRow) → slice_get t.aggregates a ≡ Some g → (o : Option (List MemberRow))
          → g.members ≡ o
          → list_any (IsAt q ty) (unwrap_or o []) ≡ true → IsOfMembers t n a
      by_members g at None e some = absurd cc
      by_members g at (Some ms) e some =
          let p = placed t built a g ms at e in
          record {
            row = g;
            members = ms;
            there = at;
            own = e;
            placed = p;
            layout =
                by_type_is (layout_rules t.model) t built n
                ∙ ap (option_and_then (at_type (layout_rules t.model) t (layout_of t))) h
                ∙ ap (option_and_then (at_aggregate (layout_rules t.model) (layout_of t))) at
                ∙ ap (option_and_then (λ (ms : List MemberRow).
                at_whole (layout_rules t.model) (layout_of t) g.is_union (types_of ms))) e
                ∙ ap (option_map (if g.is_union then union_layout else struct_layout)) p.each;
          }

      by_row : (o : Option AggregateRow) → slice_get t.aggregates a ≡ o → list_any (IsAt q ty) (rows_of o) ≡ true
          → IsOfMembers t n a
      by_row None e some = absurd cc
      by_row (Some g) e some = by_members g e g.members refl some

  size_is : (n : ℕ) (l : Layout) → layout_of t n ≡ Some l → size t n ≡ Some l.size
  size_is n l h = ap (option_map (λ (l : Layout). l.size)) h

  abbrev end_in : Bool → ℕ → List Layout → ℕ
  end_in true e ls = greatest_size ls
  end_in false e ls = end_of e ls

  rows_end : (u : Bool) (e : ℕ) (ls : List Layout) (ms : List MemberRow) → at_each (layout_of t) (types_of ms) ≡ Some ls
      → RowsAt u e ls ms → (q ty s : ℕ) → list_any (IsAt q ty) ms ≡ true → size t ty ≡ Some s → q + s ≤ end_in u e ls
  rows_end u e ls [] h r q ty s some sz = absurd cc
  rows_end u e [] (m ∷ ms) h r q ty s some sz = absurd r
  rows_end u e (l ∷ ls) (m ∷ ms) h r q ty s some sz =
      let x = at_each_some (layout_of t) m.ty (types_of ms) (l ∷ ls) h in
      let same : x.0 ≡ l = cc in
      let more : x.1 ≡ ls = cc in
      by_first u (IsAt q ty m) refl r some (x.2 ∙ ap Some same)
      (λ some. rows_end u (next_multiple_of e l.align + l.size) ls ms (x.3 ∙ ap Some more) r.1 q ty s some sz)
    where
      own_size : layout_of t m.ty ≡ Some l → m.ty ≡ ty → l.size ≡ s
      own_size one e = some-injective (sym (size_is m.ty l one) ∙ ap (size t) e ∙ sz)

      by_first : (u b : Bool) → IsAt q ty m ≡ b → RowsAt u e (l ∷ ls) (m ∷ ms) → (b || list_any (IsAt q ty) ms) ≡ true
          → layout_of t m.ty ≡ Some l
          → (list_any (IsAt q ty) ms ≡ true → q + s ≤ end_in u (next_multiple_of e l.align + l.size) ls)
          → q + s ≤ end_in u e (l ∷ ls)
      by_first true true is r some one later =
          let p = and_parts (m.offset == q) (m.ty == ty) is in
          let place = eqb-true m.offset q p.0 in
          let own = own_size one (eqb-true m.ty ty p.1) in
          let zero_at = r.0 in
          omega (arith, place, own, zero_at)
      by_first false true is r some one later =
          let p = and_parts (m.offset == q) (m.ty == ty) is in
          let place = eqb-true m.offset q p.0 in
          let own = own_size one (eqb-true m.ty ty p.1) in
          let at = r.0 in
          let rises = end_rises ls (next_multiple_of e l.align + l.size) in
          omega (arith, place, own, at, rises)
      by_first true false is r some one later = let k = later some in omega (arith, k)
      by_first false false is r some one later = later some

  whole_ends : (u : Bool) (ls : List Layout) → end_in u 0 ls ≤ ((if u then union_layout else struct_layout) ls).size
  whole_ends true ls = omega arith
  whole_ends false ls = omega arith

  -- a member ends in its aggregate
  member_fits : (g q ty n s : ℕ) → IsMember t g q ty → size t g ≡ Some n → size t ty ≡ Some s → q + s ≤ n
  member_fits g q ty n s m whole part =
      let p = of_members g m.0 q ty (aggregate_at t g m.0 m.1) m.2 in
      let ms_are : members_of t m.0 ≡ p.members = ap rows_of p.there ∙ ap (λ o. unwrap_or o []) p.own in
      let some : list_any (IsAt q ty) p.members ≡ true = sym (ap (list_any (IsAt q ty)) ms_are) ∙ m.2 in
      let end = rows_end p.row.is_union 0 p.placed.layouts p.members p.placed.each p.placed.rows q ty s some part in
      let ends = whole_ends p.row.is_union p.placed.layouts in
      let own = some-injective (sym whole ∙ size_is g _ p.layout) in
      omega (arith, end, ends, own)

  -- so does an element in its array
  element_fits : (u i n : ℕ) → i < n → u * i + u ≤ n * u
  element_fits u i n l =
      let e = mul-suc u i in
      let f = mul_comm n u in
      let g = mul-le-mul_left u (let k : suc i ≤ n = omega (arith, l) in k) in
      omega (arith, e, f, g)

  pub part_fits : (whole o ty n s : ℕ) → HasScalar t whole o ty → size t whole ≡ Some n → size t ty ≡ Some s → o + s ≤ n
  part_fits whole o ty n s here hn hs = let e = some-injective (sym hn ∙ hs) in omega (arith, e)
  part_fits whole o ty n s (in_member p g q k at m) hn hs =
      let a = aggregate_at t g m.0 m.1 in
      let l = of_members g m.0 q k a m.2 in
      let z = (if l.row.is_union then union_layout else struct_layout) l.placed.layouts in
      let one = part_fits whole p g n z.size at hn (size_is g z l.layout) in
      let two = member_fits g q k z.size s m (size_is g z l.layout) hs in
      omega (arith, one, two)
  part_fits whole o ty n s (in_element p a e c i u at el l sz) hn hs =
      let z = array_size t built a e c u (array_at t a e c el) sz in
      let one = part_fits whole p a n (c * u) at hn z in
      let two = element_fits u i c l in
      let own = some-injective (sym sz ∙ hs) in
      omega (arith, one, two, own)

  -- ---- leaves

  rows_leaf : (ms : List MemberRow) (q ty : ℕ) → list_any (IsAt q ty) ms ≡ true → (p : ℕ) (w : Scalar)
      → HasLeaf p w (leaves t ty) → HasLeaf (q + p) w (rows_leaves t false ms)
  rows_leaf [] q ty some p w i = absurd cc
  rows_leaf (m ∷ ms) q ty some p w i = by_first (IsAt q ty m) refl some (λ some. rows_leaf ms q ty some p w i)
    where
      by_first : (b : Bool) → IsAt q ty m ≡ b → (b || list_any (IsAt q ty) ms) ≡ true
          → (list_any (IsAt q ty) ms ≡ true → HasLeaf (q + p) w (rows_leaves t false ms))
          → HasLeaf (q + p) w (rows_leaves t false (m ∷ ms))
      by_first true is some later =
          let e = and_parts (m.offset == q) (m.ty == ty) is in
          has_left (shifted m.offset (leaves t m.ty)) (rows_leaves t false ms) (q + p) w
          (subst (λ x. HasLeaf (x + p) w (shifted m.offset (leaves t m.ty))) (eqb-true m.offset q e.0)
          (has_shifted m.offset (leaves t m.ty) p w
          (subst (λ x. HasLeaf p w (leaves t x)) (sym (eqb-true m.ty ty e.1)) i)))
      by_first false is some later =
          has_right (shifted m.offset (leaves t m.ty)) (rows_leaves t false ms) (q + p) w (later some)

  -- leaves of arrays
  array_leaves : (a e n u : ℕ) → slice_get t.types a ≡ Some (Array e n) → size t e ≡ Some u
      → leaves t a ≡ repeated n u (leaves t e)
  array_leaves a e n u h sz =
      let l = element_laid t built a e n h in
      let whole : layout_of t a ≡ Some ((layout_rules t.model).array n l.0) =
      by_type_is (layout_rules t.model) t built a
      ∙ ap (option_and_then (at_type (layout_rules t.model) t (layout_of t))) h
      ∙ ap (option_map ((layout_rules t.model).array n)) l.1 in
      let own : l.0.size ≡ u = some-injective (sym (size_is e l.0 l.1) ∙ sz) in
      leaves_of t a _ whole ∙ ap (λ k. repeated n k l.0.leaves) own ∙ ap (repeated n u) (sym (leaves_of t e l.0 l.1))

  -- scalars

  scalar_laid : (ty : ℕ) (w : Scalar) → scalar_of t ty ≡ Some w → layout_of t ty ≡ Some (scalar_layout t.model w)
  scalar_laid ty w h = by_ty (slice_get t.types ty) refl
    where
      of_scalar : (k : Ty) (v : Scalar) → slice_get t.types ty ≡ Some k
          → at_type (layout_rules t.model) t (layout_of t) k ≡ Some (scalar_layout t.model v) → v ≡ w
          → layout_of t ty ≡ Some (scalar_layout t.model w)
      of_scalar k v q is e =
          by_type_is (layout_rules t.model) t built ty
          ∙ ap (option_and_then (at_type (layout_rules t.model) t (layout_of t))) q ∙ is
          ∙ ap (λ w. Some (scalar_layout t.model w)) e

      by_ty : (o : Option Ty) → slice_get t.types ty ≡ o → layout_of t ty ≡ Some (scalar_layout t.model w)
      by_ty None q = none_some w (rw q at h)
      by_ty (Some Void) q = none_some w (rw q at h)
      by_ty (Some (Int i)) q = let k : Some (Number i) ≡ Some w = rw q at h in
          of_scalar (Int i) (Number i) q refl (some-injective k)
      by_ty (Some (Ptr d)) q = let k : Some Pointer ≡ Some w = rw q at h in
          of_scalar (Ptr d) Pointer q refl (some-injective k)
      by_ty (Some (Array d m)) q = none_some w (rw q at h)
      by_ty (Some (Aggregate g)) q = none_some w (rw q at h)

  pub scalar_size : (ty : ℕ) (w : Scalar) → scalar_of t ty ≡ Some w → size t ty ≡ Some (size_of t.model w)
  scalar_size ty w h = ap (option_map (λ (l : Layout). l.size)) (scalar_laid ty w h)

  module _ (tame : are_tame_types t ≡ true) where
    not_true : (b : Bool) → not b ≡ true → b ≡ false
    not_true true h = absurd cc
    not_true false h = refl

    pub no_union : (a : ℕ) (g : AggregateRow) → slice_get t.aggregates a ≡ Some g → g.is_union ≡ false
    no_union a g h =
        not_true g.is_union (all_at (λ (g : AggregateRow). not g.is_union) t.aggregates a g
        (and_parts (list_all (λ (g : AggregateRow). not g.is_union) t.aggregates)
        (list_all (λ ty. not (is_array_of_holders t ty)) (numbers_below (length t.types))) tame).0 h)

    whole_is : (u : Bool) (ls : List Layout)
        → ((if u then union_layout else struct_layout) ls).leaves ≡ whole_leaves u ls
    whole_is true ls = refl
    whole_is false ls = refl

    aggregate_leaves : (n a : ℕ) (r : IsOfMembers t n a) → leaves t n ≡ rows_leaves t false r.members
    aggregate_leaves n a r =
        leaves_of t n _ r.layout ∙ whole_is r.row.is_union r.placed.layouts
        ∙ rows_leaves_are t r.row.is_union r.members r.placed
        ∙ ap (λ u. rows_leaves t u r.members) (no_union a r.row r.there)

    part_leaf : (whole o ty : ℕ) → HasScalar t whole o ty → (p : ℕ) (w : Scalar) → HasLeaf p w (leaves t ty)
        → HasLeaf (o + p) w (leaves t whole)
    part_leaf whole o ty here p w i =
        let e : p ≡ 0 + p = omega arith in subst (λ x. HasLeaf x w (leaves t whole)) e i
    part_leaf whole o ty (in_member k g q z at m) p w i =
        let r = of_members g m.0 q z (aggregate_at t g m.0 m.1) m.2 in
        let ms_are : members_of t m.0 ≡ r.members = ap rows_of r.there ∙ ap (λ o. unwrap_or o []) r.own in
        let some : list_any (IsAt q z) r.members ≡ true = sym (ap (list_any (IsAt q z)) ms_are) ∙ m.2 in
        let inner = subst (HasLeaf (q + p) w) (sym (aggregate_leaves g m.0 r)) (rows_leaf r.members q z some p w i) in
        let e : k + (q + p) ≡ k + q + p = omega arith in
        subst (λ x. HasLeaf x w (leaves t whole)) e (part_leaf whole k g at (q + p) w inner)
    part_leaf whole o ty (in_element k a z c n u at el l sz) p w i =
        let own = array_leaves a z c u (array_at t a z c el) sz in
        let inner = subst (HasLeaf (u * n + p) w) (sym own) (has_repeated c u n (leaves t z) l p w i) in
        let e : k + (u * n + p) ≡ k + u * n + p = omega arith in
        subst (λ x. HasLeaf x w (leaves t whole)) e (part_leaf whole k a at (u * n + p) w inner)

    leaf_there : (n q : ℕ) (w : Scalar) → HasLeaf q w (leaves t n) → leaf_at (leaves t n) q ≡ Some w
    leaf_there n q w i =
        leaf_is_at t.model 0 (unwrap_or (size t n) 0) (leaves t n) (leaves_ordered t n) q w i

    pub part_has_leaves : (whole o ty : ℕ) → HasScalar t whole o ty → (q : ℕ) (w : Scalar)
        → leaf_at (leaves t ty) q ≡ Some w → leaf_at (leaves t whole) (o + q) ≡ Some w
    part_has_leaves whole o ty at q w h =
        leaf_there whole (o + q) w (part_leaf whole o ty at q w (has_leaf (leaves t ty) q w h))

    scalar_leaf : (ty : ℕ) (w : Scalar) → scalar_of t ty ≡ Some w → leaf_at (leaves t ty) 0 ≡ Some w
    scalar_leaf ty w h = ap (λ xs. leaf_at xs 0) (leaves_of t ty _ (scalar_laid ty w h))

    pub scalar_is_leaf : (whole o ty : ℕ) → HasScalar t whole o ty → (w : Scalar) → scalar_of t ty ≡ Some w
        → leaf_at (leaves t whole) o ≡ Some w
    scalar_is_leaf whole o ty at w h =
        let e : o + 0 ≡ o = omega arith in
        subst (λ x. leaf_at (leaves t whole) x ≡ Some w) e (part_has_leaves whole o ty at 0 w (scalar_leaf ty w h))
