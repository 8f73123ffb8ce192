-- Sizes of types: by number and by type alike, and from 1 to 65,536 bytes.
use Rattle.std.proofs.Common.{◌≡◌, ℕ, zero, suc, ◌+◌, ◌*◌, ◌≤◌, nat_lt, nat_le, Bool, true, false, List, [], ◌∷◌}
use Rattle.std.proofs.Common.{slice_get, Option, Some, None, option_map, option_and_then, refl, sym, ap, ◌∙◌, subst}
use Rattle.std.proofs.Common.{arith, if◌then◌else◌}
use Rattle.std.specs.Int.{next_multiple_of}
use Rattle.std.proofs.lemmas.Bool.Decides.{nat_tests}
use Rattle.std.proofs.lemmas.Bool.{and_parts}
use Rattle.ep_int.specs.declared.types.Scalar.TheVariants.{Int as Number, Pointer}
use Rattle.ep_layout.specs.declared.types.Ty.{Ty}
use Rattle.ep_layout.specs.declared.types.Ty.TheVariants.{Void, Int, Ptr, Array, Aggregate}
use Rattle.ep_layout.specs.Layout.{Layout, array_layout, end_of, struct_layout, union_layout}
use Rattle.ep_layout.specs.Table.{Table, MemberRow, IsBuilt, at_aggregate, at_depth, at_each, at_type, at_whole}
use Rattle.ep_layout.specs.Table.{layout_of, layout_rules, size}
use Rattle.ep_layout.proofs.Options.{and_then_some, at_each_some, map_some}
use Rattle.ep_layout.proofs.Laid.{by_type_is}
use Rattle.ep_layout.proofs.Recursion.{types_of}
use Rattle.ep_layout.proofs.Sizes.{layout_fits, size_of_scalar}
use Rattle.ep_core.specs.WellFormed.{is_length}
use Rattle.ep_typing.specs.declared.types.Base.{Base}
use Rattle.ep_typing.specs.declared.types.Base.TheVariants as bases
use Rattle.ep_typing.specs.declared.types.CType.{CType}
use Rattle.ep_typing.specs.Types.{base_size, size_of_type}
use Rattle.ep_well_formed_laws.specs.Numbers.{IsTable, array_number, number_of_base, type_number}
use Rattle.ep_well_formed_laws.proofs.Tables.{base_again, row_at, target_number}

-- ---- by number and by type

pub layout_at : (t : Table) → IsBuilt t → (n : ℕ) (ty : Ty) → slice_get t.types n ≡ Some ty
    → layout_of t n ≡ at_type (layout_rules t.model) t (layout_of t) ty
layout_at t b n ty h = by_type_is (layout_rules t.model) t b n
    ∙ ap (option_and_then (at_type (layout_rules t.model) t (layout_of t))) h

size_by : (t : Table) → IsBuilt t → (n : ℕ) (ty : Ty) → slice_get t.types n ≡ Some ty
    → size t n ≡ option_map (λ (l : Layout). l.size) (at_type (layout_rules t.model) t (layout_of t) ty)
size_by t b n ty h = ap (option_map (λ (l : Layout). l.size)) (layout_at t b n ty h)

-- an array has its own number
pub array_is : (n m : ℕ) (o : Option Ty) → array_number n o ≡ Some m
    → (n ≡ m) × (e : ℕ) × (k : ℕ) × (o ≡ Some (Array e k))
array_is n m None h = absurd cc
array_is n m (Some Void) h = absurd cc
array_is n m (Some (Int i)) h = absurd cc
array_is n m (Some (Ptr e)) h = absurd cc
array_is n m (Some (Array e k)) h = (cc, e, k, refl)
array_is n m (Some (Aggregate a)) h = absurd cc

base_sized : (t : Table) → IsBuilt t → (c : Base) (n : ℕ) → number_of_base t c ≡ Some n → base_size t c ≡ size t n
base_sized t b bases.Void n h = sym (size_by t b n Void (row_at t Void n h))
base_sized t b (bases.Int i) n h = sym (size_by t b n (Int i) (row_at t (Int i) n h))
base_sized t b (bases.Array m) n h = ap (size t) (array_is m n (slice_get t.types m) h).0
base_sized t b (bases.Aggregate a) n h = sym (size_by t b n (Aggregate a) (row_at t (Aggregate a) n h))

pub same_size : (t : Table) → IsBuilt t → (c : CType) (n : ℕ) → type_number t c ≡ Some n → size_of_type t c ≡ size t n
same_size t b c n h = by_test (nat_lt 0 c.stars) refl
  where
    by_test : (p : Bool) → nat_lt 0 c.stars ≡ p → size_of_type t c ≡ size t n
    by_test true p =
        let s = target_number t c n p h in rw p (sym (size_by t b n (Ptr s.0) s.2))
    by_test false p =
        let k = subst (λ (d : CType). type_number t d ≡ Some n) (sym (base_again c p)) h in rw p (base_sized t b c.base n k)

-- ---- no type has no bytes

module _ (t : Table) (table : IsTable t) where
  abbrev HasBytes : (ℕ → Option Layout) → Type 0
  HasBytes f = (n : ℕ) (l : Layout) → f n ≡ Some l → 1 ≤ l.size

  from_end : (ls : List Layout) (e : ℕ) → e ≤ end_of e ls
  from_end [] e = omega arith
  from_end (l ∷ more) e = omega (arith, from_end more (next_multiple_of e l.align + l.size))

  struct_bytes : (l : Layout) (ls : List Layout) → 1 ≤ l.size → 1 ≤ (struct_layout (l ∷ ls)).size
  struct_bytes l ls h = omega (arith, h, from_end ls (next_multiple_of 0 l.align + l.size))

  union_bytes : (l : Layout) (ls : List Layout) → 1 ≤ l.size → 1 ≤ (union_layout (l ∷ ls)).size
  union_bytes l ls h = omega (arith, h)

  whole_bytes : (u : Bool) (l : Layout) (ls : List Layout) → 1 ≤ l.size
      → 1 ≤ ((if u then union_layout else struct_layout) (l ∷ ls)).size
  whole_bytes true l ls h = union_bytes l ls h
  whole_bytes false l ls h = struct_bytes l ls h

  product : (k s : ℕ) → 1 ≤ k → 1 ≤ s → 1 ≤ k * s
  product zero s p q = absurd (omega (arith, p))
  product (suc k) s p q = let e : suc k * s ≡ s + k * s = omega arith in omega (arith, q, e)

  long_enough : (k : ℕ) → is_length k ≡ true → 1 ≤ k
  long_enough k h = let p = (and_parts (nat_le 1 k) (nat_le k 65536) h).0 in grind (arith, nat_tests)

  members_bytes : (f : ℕ → Option Layout) → HasBytes f → (u : Bool) (m : MemberRow) (rest : List MemberRow) (l : Layout)
      → at_whole (layout_rules t.model) f u (types_of (m ∷ rest)) ≡ Some l → 1 ≤ l.size
  members_bytes f p u m rest l h =
      let s = map_some _ (at_each f (types_of (m ∷ rest))) l h in
      let q = at_each_some f m.ty (types_of rest) s.0 s.1 in
      subst (λ (x : Layout). 1 ≤ x.size) s.2
      (subst (λ (ls : List Layout). 1 ≤ ((if u then union_layout else struct_layout) ls).size) q.4
      (whole_bytes u q.0 q.1 (p m.ty q.0 q.2)))

  type_bytes : (f : ℕ → Option Layout) → HasBytes f → (n : ℕ) (ty : Ty) (l : Layout) → slice_get t.types n ≡ Some ty
      → at_type (layout_rules t.model) t f ty ≡ Some l → 1 ≤ l.size
  type_bytes f p n Void l e h = absurd cc
  type_bytes f p n (Int i) l e h =
      let s = size_of_scalar t.model (Number i) in
      let q : (layout_rules t.model).scalar (Number i) ≡ l = cc in subst (λ (x : Layout). 1 ≤ x.size) q (omega (arith, s.0))
  type_bytes f p n (Ptr d) l e h =
      let s = size_of_scalar t.model Pointer in
      let q : (layout_rules t.model).scalar Pointer ≡ l = cc in subst (λ (x : Layout). 1 ≤ x.size) q (omega (arith, s.0))
  type_bytes f p n (Array d k) l e h =
      let s = map_some (array_layout k) (f d) l h in
      subst (λ (x : Layout). 1 ≤ x.size) s.2 (product k s.0.size (long_enough k (table.arrays n d k e)) (p d s.0 s.1))
  type_bytes f p n (Aggregate a) l e h =
      let s = and_then_some (at_aggregate (layout_rules t.model) f) (slice_get t.aggregates a) l h in
      let q = and_then_some _ s.0.members l s.2 in
      let r = table.bodies a s.0 q.0 s.1 q.1 in
      members_bytes f p s.0.is_union r.0 r.1 l
      (subst (λ (ms : List MemberRow). at_whole (layout_rules t.model) f s.0.is_union (types_of ms) ≡ Some l) r.2 q.2)

  depth_bytes : (k : ℕ) → HasBytes (at_depth (layout_rules t.model) t k)
  unfolding at_depth
  depth_bytes zero n l h = absurd cc
  depth_bytes (suc k) n l h =
      let s = and_then_some (at_type (layout_rules t.model) t (at_depth (layout_rules t.model) t k)) (slice_get t.types n) l h in
      type_bytes (at_depth (layout_rules t.model) t k) (depth_bytes k) n s.0 l s.1 s.2

  pub size_is_length : (n s : ℕ) → size t n ≡ Some s → is_length s ≡ true
  size_is_length n s h =
      let p = map_some (λ (l : Layout). l.size) (layout_of t n) s h in
      let low : 1 ≤ p.0.size = depth_bytes _ n p.0 p.1 in
      let high : p.0.size ≤ 65536 = (layout_fits t table.built n p.0 p.1).size in
      let e : p.0.size ≡ s = p.2 in
      within s (omega (arith, low, e)) (omega (arith, high, e))
    where
      within : (k : ℕ) → 1 ≤ k → k ≤ 65536 → is_length k ≡ true
      within k p q = let a : nat_le 1 k ≡ true = grind (arith, nat_tests) in
          let b : nat_le k 65536 ≡ true = grind (arith, nat_tests) in rw (a, b) refl
