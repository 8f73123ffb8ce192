-- Parts of the types of a table that was built lie inside the whole, at multiples of their alignment.
use Rattle.std.proofs.Common.{◌≡◌, ℕ, zero, suc, ◌+◌, ◌*◌, ◌%◌, ◌≤◌, max, nat_eq, Bool, true, false, ◌&&◌}
use Rattle.std.proofs.lemmas.Bool.{or_cases}
use Rattle.std.proofs.Common.{if◌then◌else◌, List, [], ◌∷◌, slice_get, Option, Some, None, option_map}
use Rattle.std.proofs.Common.{option_and_then, refl, sym, ap, ◌∙◌, subst, ◌⊎◌, inl, inr, arith}
use Rattle.std.specs.List.{All, list_any}
use Rattle.std.specs.Int.{next_multiple_of}
use Rattle.std.proofs.lemmas.Bool.{and_parts, eqb-true}
use Rattle.std.proofs.lemmas.List.Elements.{All-head, All-tail}
use Rattle.ep_int.specs.declared.types.Model.{Model}
use Rattle.ep_int.specs.declared.types.Model.TheVariants.{Ilp32, Lp64}
use Rattle.ep_int.specs.declared.types.Scalar.{Scalar}
use Rattle.ep_int.specs.declared.types.Scalar.TheVariants.{Int as Number, Pointer}
use Rattle.ep_int.specs.declared.types.IntType.TheVariants.{I8, U8, I16, U16, I32, U32, I64, U64}
use Rattle.ep_int.specs.Types.{size_of}
use Rattle.ep_layout.specs.declared.types.Ty.{Ty}
use Rattle.ep_layout.specs.declared.types.Ty.TheVariants as ty
use Rattle.ep_layout.specs.Layout.{Layout, scalar_layout, array_layout, struct_layout, union_layout, end_of}
use Rattle.ep_layout.specs.Layout.{greatest_align, greatest_size}
use Rattle.ep_layout.specs.Table.{Table, MemberRow, AggregateRow, IsBuilt, at_each, at_type, at_aggregate, layout_of}
use Rattle.ep_layout.specs.Table.{layout_rules, has_member_at}
use Rattle.ep_layout.proofs.Options.{and_then_some, at_each_some, map_some, same_some}
use Rattle.ep_layout.proofs.Laid.{by_type_is}
use Rattle.ep_layout.proofs.Recursion.{types_of}
use Rattle.ep_layout.proofs.Rows.{RowsAt, placed}
use Rattle.ep_layout.proofs.Ordered.{IsPower, next_is_multiple}
use Rattle.ep_layout.proofs.PlacingLemmas.{end_rises}
use Rattle.ep_layout.proofs.Sizes.{IsKept, kept_by_type}
use Rattle.ep_core.specs.WellFormed.{has_scalar, has_member, is_array_of, has_bound}
use Rattle.ep_core.proofs.Sorts.{never, same_scalar}

-- ---- alignments are powers of two up to 8, and divide sizes

pub by_power : (P : ℕ → Type 0) → P 1 → P 2 → P 4 → P 8 → (a : ℕ) → IsPower a → P a
by_power P p q r s a (inl e) = subst P (sym e) p
by_power P p q r s a (inr (inl e)) = subst P (sym e) q
by_power P p q r s a (inr (inr (inl e))) = subst P (sym e) r
by_power P p q r s a (inr (inr (inr e))) = subst P (sym e) s

size_is_power : (m : Model) (w : Scalar) → IsPower (size_of m w)
size_is_power m (Number I8) = inl refl
size_is_power m (Number U8) = inl refl
size_is_power m (Number I16) = inr (inl refl)
size_is_power m (Number U16) = inr (inl refl)
size_is_power m (Number I32) = inr (inr (inl refl))
size_is_power m (Number U32) = inr (inr (inl refl))
size_is_power m (Number I64) = inr (inr (inr refl))
size_is_power m (Number U64) = inr (inr (inr refl))
size_is_power Ilp32 Pointer = inr (inr (inl refl))
size_is_power Lp64 Pointer = inr (inr (inr refl))

-- a multiple of an alignment and of one that is not less
abbrev Moves : ℕ → ℕ → Type 0
Moves a s = (k o : ℕ) → s ≤ a → k % a ≡ 0 → o % s ≡ 0 → (k + o) % s ≡ 0

moves_by : (s : ℕ) → IsPower s → (a : ℕ) → IsPower a → Moves a s
moves_by = by_power (λ s. (a : ℕ) → IsPower a → Moves a s)
    (by_power (λ a. Moves a 1) (λ k o l p q. omega arith) (λ k o l p q. omega arith) (λ k o l p q. omega arith)
    (λ k o l p q. omega arith))
    (by_power (λ a. Moves a 2) (λ k o l p q. omega arith) (λ k o l p q. omega arith) (λ k o l p q. omega arith)
    (λ k o l p q. omega arith))
    (by_power (λ a. Moves a 4) (λ k o l p q. omega arith) (λ k o l p q. omega arith) (λ k o l p q. omega arith)
    (λ k o l p q. omega arith))
    (by_power (λ a. Moves a 8) (λ k o l p q. omega arith) (λ k o l p q. omega arith) (λ k o l p q. omega arith)
    (λ k o l p q. omega arith))

pub zero_is_multiple : (a : ℕ) → IsPower a → 0 % a ≡ 0
zero_is_multiple = by_power (λ a. 0 % a ≡ 0) refl refl refl refl

-- so far behind a multiple of the alignment of a whole, a multiple of that of a part
pub sum_is_multiple : (s : ℕ) → IsPower s → (a : ℕ) → IsPower a → (k o : ℕ) → s ≤ a → k % a ≡ 0 → o % s ≡ 0
    → (k + o) % s ≡ 0
sum_is_multiple s q a p k o l h i = moves_by s q a p k o l h i

itself : (a : ℕ) → IsPower a → a % a ≡ 0
itself = by_power (λ a. a % a ≡ 0) refl refl refl refl

product_is_multiple : (a : ℕ) → IsPower a → (n k : ℕ) → k % a ≡ 0 → (n * k) % a ≡ 0
product_is_multiple a p zero k h =
    let e : zero * k ≡ 0 = omega arith in ap (λ (j : ℕ). j % a) e ∙ zero_is_multiple a p
product_is_multiple a p (suc n) k h =
    let e : suc n * k ≡ k + n * k = omega arith in
    ap (λ (j : ℕ). j % a) e
    ∙ moves_by a p a p k (n * k) (omega arith) h (product_is_multiple a p n k h)

max_is_power : (b : ℕ) → IsPower b → (a : ℕ) → IsPower a → IsPower (max a b)
max_is_power b q a p = elim (either a b) [
  | inl e ↦ subst IsPower (sym e) p
  | inr e ↦ subst IsPower (sym e) q
]
  where
    either : (a b : ℕ) → (max a b ≡ a) ⊎ (max a b ≡ b)
    either zero b = inr (omega arith)
    either (suc a) zero = inl (omega arith)
    either (suc a) (suc b) = elim (either a b) [ inl e ↦ inl (omega (arith, e)) | inr e ↦ inr (omega (arith, e)) ]

pub record IsWhole (l : Layout) : Type 0 where
  pub align : IsPower l.align
  pub size : l.size % l.align ≡ 0

align_of_all : (ls : List Layout) → All IsWhole ls → IsPower (greatest_align ls)
align_of_all [] h = inl refl
align_of_all (l ∷ more) h =
    max_is_power (greatest_align more) (align_of_all more (All-tail IsWhole l more h)) l.align
    (All-head IsWhole l more h).align

whole_rules : (m : Model) → IsKept (layout_rules m) IsWhole
whole_rules m = record {
  scalar = λ w. record { align = size_is_power m w; size = itself (size_of m w) (size_is_power m w) };
  array = λ n l h. record { align = h.align; size = product_is_multiple l.align h.align n l.size h.size };
  struct = λ ls h. record {
    align = align_of_all ls h;
    size = next_is_multiple (greatest_align ls) (align_of_all ls h) (end_of 0 ls);
  };
  union = λ ls h. record {
    align = align_of_all ls h;
    size = next_is_multiple (greatest_align ls) (align_of_all ls h) (greatest_size ls);
  };
}

pub whole : (t : Table) (n : ℕ) (l : Layout) → layout_of t n ≡ Some l → IsWhole l
whole t n l h = kept_by_type (layout_rules t.model) IsWhole (whole_rules t.model) t n l h

-- ---- members

-- a part of an object so many bytes behind its begin
pub record IsPart (t : Table) (whole : Layout) (offset ty : ℕ) : Type 0 where
  pub layout : Layout
  pub laid : layout_of t ty ≡ Some layout
  pub multiple : offset % layout.align ≡ 0
  pub align : layout.align ≤ whole.align
  pub inside : offset + layout.size ≤ whole.size

-- where members end
record LiesBefore (t : Table) (end align offset ty : ℕ) : Type 0 where
  layout : Layout
  laid : layout_of t ty ≡ Some layout
  multiple : offset % layout.align ≡ 0
  low : layout.align ≤ align
  inside : offset + layout.size ≤ end

abbrev is_member : ℕ → ℕ → MemberRow → Bool
is_member offset n m = nat_eq m.offset offset && nat_eq m.ty n

module _ (t : Table) (offset n : ℕ) where
  this_member : (m : MemberRow) (l : Layout) (end align : ℕ) → is_member offset n m ≡ true → layout_of t m.ty ≡ Some l
      → m.offset % l.align ≡ 0 → l.align ≤ align → m.offset + l.size ≤ end → LiesBefore t end align offset n
  this_member m l end align h laid even low inside =
      let p = and_parts (nat_eq m.offset offset) (nat_eq m.ty n) h in
      let at : m.offset ≡ offset = eqb-true m.offset offset p.0 in
      let is : m.ty ≡ n = eqb-true m.ty n p.1 in
      record {
        layout = l;
        laid = subst (λ (k : ℕ). layout_of t k ≡ Some l) is laid;
        multiple = subst (λ (k : ℕ). k % l.align ≡ 0) at even;
        low = low;
        inside = subst (λ (k : ℕ). k + l.size ≤ end) at inside;
      }

  struct_lies : (ms : List MemberRow) (e : ℕ) (ls : List Layout) → at_each (layout_of t) (types_of ms) ≡ Some ls
      → RowsAt false e ls ms → list_any (is_member offset n) ms ≡ true
      → LiesBefore t (end_of e ls) (greatest_align ls) offset n
  struct_lies [] e ls h p q = never q
  struct_lies (x ∷ ms) e [] h p q = absurd p
  struct_lies (x ∷ ms) e (l ∷ ls) h p q =
      let s = at_each_some (layout_of t) x.ty (types_of ms) (l ∷ ls) h in
      let same : s.0 ≡ l = (let z = s.4 in cc) in
      let more : s.1 ≡ ls = (let z = s.4 in cc) in
      let laid : layout_of t x.ty ≡ Some l = s.2 ∙ ap (λ (z : Layout). Some z) same in
      let f : ℕ = next_multiple_of e l.align + l.size in
      elim (or_cases (is_member offset n x) (list_any (is_member offset n) ms) q) [
        | inl a ↦ this_member x l (end_of f ls) (greatest_align (l ∷ ls)) a laid
            (subst (λ (k : ℕ). k % l.align ≡ 0) (sym p.0) (next_is_multiple l.align (whole t x.ty l laid).align e))
            (omega arith) (let r = end_rises ls f in let o = p.0 in omega (arith, r, o))
        | inr a ↦
            let r = struct_lies ms f ls (s.3 ∙ ap (λ (z : List Layout). Some z) more) p.1 a in
            let low = r.low in
            record {
              layout = r.layout;
              laid = r.laid;
              multiple = r.multiple;
              low = omega (arith, low);
              inside = r.inside;
            }
      ]

  union_lies : (ms : List MemberRow) (e : ℕ) (ls : List Layout) → at_each (layout_of t) (types_of ms) ≡ Some ls
      → RowsAt true e ls ms → list_any (is_member offset n) ms ≡ true
      → LiesBefore t (greatest_size ls) (greatest_align ls) offset n
  union_lies [] e ls h p q = never q
  union_lies (x ∷ ms) e [] h p q = absurd p
  union_lies (x ∷ ms) e (l ∷ ls) h p q =
      let s = at_each_some (layout_of t) x.ty (types_of ms) (l ∷ ls) h in
      let same : s.0 ≡ l = (let z = s.4 in cc) in
      let more : s.1 ≡ ls = (let z = s.4 in cc) in
      let laid : layout_of t x.ty ≡ Some l = s.2 ∙ ap (λ (z : Layout). Some z) same in
      elim (or_cases (is_member offset n x) (list_any (is_member offset n) ms) q) [
        | inl a ↦ this_member x l (greatest_size (l ∷ ls)) (greatest_align (l ∷ ls)) a laid
            (subst (λ (k : ℕ). k % l.align ≡ 0) (sym p.0) (zero_is_multiple l.align (whole t x.ty l laid).align))
            (omega arith) (let o = p.0 in omega (arith, o))
        | inr a ↦
            let r = union_lies ms (next_multiple_of e l.align + l.size) ls
            (s.3 ∙ ap (λ (z : List Layout). Some z) more) p.1 a in
            let low = r.low in
            let end = r.inside in
            record {
              layout = r.layout;
              laid = r.laid;
              multiple = r.multiple;
              low = omega (arith, low);
              inside = omega (arith, end);
            }
      ]

  aggregate_lies : (u : Bool) (ms : List MemberRow) (ls : List Layout) (l : Layout)
      → at_each (layout_of t) (types_of ms) ≡ Some ls → RowsAt u 0 ls ms
      → (if u then union_layout else struct_layout) ls ≡ l → list_any (is_member offset n) ms ≡ true
      → IsPart t l offset n
  aggregate_lies true ms ls l h p e q =
      let r = union_lies ms 0 ls h p q in
      let end = r.inside in
      let size : (union_layout ls).size ≡ l.size = ap (λ (z : Layout). z.size) e in
      record {
        layout = r.layout;
        laid = r.laid;
        multiple = r.multiple;
        align = subst (λ (z : Layout). r.layout.align ≤ z.align) e r.low;
        inside = omega (arith, end, size);
      }
  aggregate_lies false ms ls l h p e q =
      let r = struct_lies ms 0 ls h p q in
      let end = r.inside in
      let size : (struct_layout ls).size ≡ l.size = ap (λ (z : Layout). z.size) e in
      record {
        layout = r.layout;
        laid = r.laid;
        multiple = r.multiple;
        align = subst (λ (z : Layout). r.layout.align ≤ z.align) e r.low;
        inside = omega (arith, end, size);
      }

module _ (t : Table) (built : IsBuilt t) where
  layout_at : (n : ℕ) (x : Ty) → slice_get t.types n ≡ Some x
      → layout_of t n ≡ at_type (layout_rules t.model) t (layout_of t) x
  layout_at n x h =
      by_type_is (layout_rules t.model) t built n
      ∙ ap (option_and_then (at_type (layout_rules t.model) t (layout_of t))) h

  aggregate_part : (u a : ℕ) (l : Layout) (offset n : ℕ) → slice_get t.types u ≡ Some (ty.Aggregate a)
      → layout_of t u ≡ Some l → has_member_at t a offset n ≡ true → IsPart t l offset n
  aggregate_part u a l offset n row laid h =
      let s = and_then_some (at_aggregate (layout_rules t.model) (layout_of t)) (slice_get t.aggregates a) l
      (sym (layout_at u (ty.Aggregate a) row) ∙ laid) in
      let q = and_then_some _ s.0.members l s.2 in
      let r = map_some (if s.0.is_union then union_layout else struct_layout) (at_each (layout_of t) (types_of q.0)) l
      (by s.0.is_union q.0 q.2) in
      let v = placed t built a s.0 q.0 s.1 q.1 in
      let same : v.layouts ≡ r.0 = same_some v.layouts r.0 (at_each (layout_of t) (types_of q.0)) v.each r.1 in
      aggregate_lies t offset n s.0.is_union q.0 r.0 l r.1
      (subst (λ (ls : List Layout). RowsAt s.0.is_union 0 ls q.0) same v.rows) r.2
      (members s.0 q.0 s.1 q.1 h)
    where
      by : (u : Bool) (ms : List MemberRow)
          → option_map (if u then (layout_rules t.model).union else (layout_rules t.model).struct)
          (at_each (layout_of t) (types_of ms)) ≡ Some l
          → option_map (if u then union_layout else struct_layout) (at_each (layout_of t) (types_of ms)) ≡ Some l
      by true ms e = e
      by false ms e = e

      members : (g : AggregateRow) (ms : List MemberRow) → slice_get t.aggregates a ≡ Some g → g.members ≡ Some ms
          → has_member_at t a offset n ≡ true → list_any (is_member offset n) ms ≡ true
      members g ms e f h = rw (e, f) at h

  -- a member of a type that has a layout
  pub member_part : (u : ℕ) (l : Layout) (offset n : ℕ) → layout_of t u ≡ Some l
      → has_member t (slice_get t.types u) offset n ≡ true → IsPart t l offset n
  member_part u l offset n laid h = by (slice_get t.types u) refl h
    where
      by : (o : Option Ty) → slice_get t.types u ≡ o → has_member t o offset n ≡ true → IsPart t l offset n
      by None e h = never h
      by (Some ty.Void) e h = never h
      by (Some (ty.Int i)) e h = never h
      by (Some (ty.Ptr d)) e h = never h
      by (Some (ty.Array d c)) e h = never h
      by (Some (ty.Aggregate a)) e h = aggregate_part u a l offset n e laid h

  -- ---- elements

  -- the elements of an array, so many
  pub record AreElements (whole : Layout) (n count : ℕ) : Type 0 where
    pub layout : Layout
    pub laid : layout_of t n ≡ Some layout
    pub is : whole ≡ array_layout count layout

  pub elements : (u : ℕ) (l : Layout) (n count : ℕ) → layout_of t u ≡ Some l
      → (is_array_of (slice_get t.types u) n && has_bound (slice_get t.types u) count) ≡ true
      → AreElements l n count
  elements u l n count laid h = by (slice_get t.types u) refl h
    where
      by : (o : Option Ty) → slice_get t.types u ≡ o → (is_array_of o n && has_bound o count) ≡ true
          → AreElements l n count
      by None e h = never h
      by (Some ty.Void) e h = never h
      by (Some (ty.Int i)) e h = never h
      by (Some (ty.Ptr d)) e h = never h
      by (Some (ty.Aggregate a)) e h = never h
      by (Some (ty.Array d c)) e h =
          let p = and_parts (nat_eq d n) (nat_eq c count) h in
          let s = map_some (array_layout c) (layout_of t d) l (sym (layout_at u (ty.Array d c) e) ∙ laid) in
          record {
            layout = s.0;
            laid = subst (λ (k : ℕ). layout_of t k ≡ Some s.0) (eqb-true d n p.0) s.1;
            is = sym s.2 ∙ ap (λ (k : ℕ). array_layout k s.0) (eqb-true c count p.1);
          }

  -- ---- scalars

  pub scalar_laid : (n : ℕ) (w : Scalar) → has_scalar (slice_get t.types n) w ≡ true
      → layout_of t n ≡ Some (scalar_layout t.model w)
  scalar_laid n w h = by (slice_get t.types n) refl h
    where
      by : (o : Option Ty) → slice_get t.types n ≡ o → has_scalar o w ≡ true
          → layout_of t n ≡ Some (scalar_layout t.model w)
      by None e h = never h
      by (Some ty.Void) e h = never h
      by (Some (ty.Array d c)) e h = never h
      by (Some (ty.Aggregate a)) e h = never h
      by (Some (ty.Int i)) e h =
          layout_at n (ty.Int i) e ∙ ap (λ z. Some (scalar_layout t.model z)) (same_scalar (Number i) w h)
      by (Some (ty.Ptr d)) e h =
          layout_at n (ty.Ptr d) e ∙ ap (λ z. Some (scalar_layout t.model z)) (same_scalar Pointer w h)
