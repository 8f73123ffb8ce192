-- Tables that were built: types and their numbers, sizes, and what comes into a table.
use Rattle.std.proofs.Common.{◌≡◌, ℕ, zero, suc, ◌+◌, ◌-◌, ◌<◌, nat_lt, true, false, List, [], ◌∷◌, length, slice_get}
use Rattle.std.proofs.lemmas.Option.{slice_get_within}
use Rattle.std.proofs.Common.{Option, Some, None, option_and_then, refl, sym, ap, ◌∙◌, subst, inl, inr, arith}
use Rattle.std.proofs.lemmas.Bool.Decides.{nat_tests}
use Rattle.ep_layout.specs.declared.types.Ty.{Ty}
use Rattle.ep_layout.specs.declared.types.Ty.TheVariants.{Void, Int, Ptr, Array, Aggregate}
use Rattle.ep_layout.specs.SameTypes.{is_same_type, same_types, same_itself}
use Rattle.ep_layout.specs.Table.{Table, IsBuilt, laid_out, number_of, with_type}
use Rattle.ep_layout.specs.Table.IsBuilt.{start, type_more, aggregate_more, members_more}
use Rattle.ep_layout.proofs.Options.{and_then_some, get_push}
use Rattle.ep_layout.proofs.Positions.{position_some, position_push, position_stays}
use Rattle.ep_layout.proofs.Laid.{completed_is, with_members}
use Rattle.ep_layout.proofs.Sizes.{target_before}
use Rattle.ep_typing.specs.declared.types.CType.{CType}
use Rattle.ep_typing.specs.Types.{of_row, pointer_to, target, type_of, type_within, whole}
use Rattle.ep_well_formed_laws.specs.Numbers.{array_number, number_behind, number_of_base, type_number}

-- ---- numbers and rows

-- what has a number stands there
pub row_at : (t : Table) (ty : Ty) (n : ℕ) → number_of t ty ≡ Some n → slice_get t.types n ≡ Some ty
row_at t ty n h =
    let p = position_some (is_same_type ty) t.types n Void h in
    p.1 ∙ ap (λ (x : Ty). Some x) (sym (same_types ty p.0 p.2))

-- what stands there has that number, for a type comes into a table once
pub number_at : (t : Table) → IsBuilt t → (n : ℕ) (ty : Ty) → slice_get t.types n ≡ Some ty → number_of t ty ≡ Some n
number_at t (start m) n ty h = absurd cc
number_at t (type_more s new b here fresh fits) n ty h = elim (get_push s.types new ty n h) [
  | inl old ↦ position_stays (is_same_type ty) s.types new n (number_at s b n ty old)
  | inr p ↦ subst (λ (k : ℕ). number_of (with_type s new) ty ≡ Some k) (sym p.0)
      (subst (λ (v : Ty). number_of (with_type s new) v ≡ Some (length s.types)) p.1
      (position_push (is_same_type new) s.types new fresh (same_itself new)))
]
number_at t (aggregate_more s tag u b) n ty h = number_at s b n ty h
number_at t (members_more s a g members b here none_yet slice_get_within fits) n ty h =
    let v = with_members s a g (laid_out s g.is_union members) in
    let e = completed_is s a g members here in
    let p : slice_get v.types n ≡ Some ty = subst (λ (w : Table). slice_get w.types n ≡ Some ty) e h in
    subst (λ (w : Table). number_of w ty ≡ Some n) (sym e) (number_at s b n ty p)

-- ---- pointers

pub pointer_behind : (t : Table) (o : Option ℕ) (k : ℕ)
    → number_behind t o (k + 1) ≡ option_and_then (λ n. number_of t (Ptr n)) (number_behind t o k)
pointer_behind t o k = let e : k + 1 ≡ suc k = omega arith in ap (number_behind t o) e

pub behind_first : (t : Table) (o : Option ℕ) (k : ℕ)
    → number_behind t o (suc k) ≡ number_behind t (option_and_then (λ n. number_of t (Ptr n)) o) k
behind_first t o zero = refl
behind_first t o (suc k) = ap (option_and_then (λ n. number_of t (Ptr n))) (behind_first t o k)

pub behind_none : (t : Table) (k : ℕ) → number_behind t None k ≡ None
behind_none t zero = refl
behind_none t (suc k) = ap (option_and_then (λ n. number_of t (Ptr n))) (behind_none t k)

pub pointer_is : (t : Table) (c : CType) (n m : ℕ) → type_number t c ≡ Some n → number_of t (Ptr n) ≡ Some m
    → type_number t (pointer_to c) ≡ Some m
pointer_is t c n m h p =
    pointer_behind t (number_of_base t c.base) c.stars ∙ ap (option_and_then (λ k. number_of t (Ptr k))) h ∙ p

-- a pointer type is one to its target
pub target_again : (c : CType) → nat_lt 0 c.stars ≡ true → pointer_to (target c) ≡ c
target_again c h =
    let e : c.stars - 1 + 1 ≡ c.stars = grind (arith, nat_tests) in
    ap (λ (k : ℕ). record { base = c.base; stars = k }) e

-- a pointer type in the table stands behind its target
pub target_number : (t : Table) (c : CType) (n : ℕ) → nat_lt 0 c.stars ≡ true → type_number t c ≡ Some n
    → (m : ℕ) × (type_number t (target c) ≡ Some m) × (slice_get t.types n ≡ Some (Ptr m))
target_number t c n h e =
    let k = subst (λ (d : CType). type_number t d ≡ Some n) (sym (target_again c h)) e in
    let s = and_then_some (λ k. number_of t (Ptr k)) (number_behind t (number_of_base t c.base) (c.stars - 1)) n
    (sym (pointer_behind t (number_of_base t c.base) (c.stars - 1)) ∙ k) in
    (s.0, s.1, row_at t (Ptr s.0) n s.2)

-- a type that is no pointer is its base
pub base_again : (c : CType) → nat_lt 0 c.stars ≡ false → whole c.base ≡ c
base_again c h =
    let e : 0 ≡ c.stars = grind (arith, nat_tests) in ap (λ (k : ℕ). record { base = c.base; stars = k }) e

-- ---- the type of a number

module _ (t : Table) (b : IsBuilt t) where
  of_row_number : (at : ℕ → CType) (n : ℕ) (ty : Ty) → slice_get t.types n ≡ Some ty
      → ((e : ℕ) → ty ≡ Ptr e → type_number t (at e) ≡ Some e) → type_number t (of_row at n (Some ty)) ≡ Some n
  of_row_number at n Void h f = number_at t b n Void h
  of_row_number at n (Int i) h f = number_at t b n (Int i) h
  of_row_number at n (Ptr e) h f = pointer_is t (at e) e n (f e refl) (number_at t b n (Ptr e) h)
  of_row_number at n (Array e k) h f = ap (array_number n) h
  of_row_number at n (Aggregate a) h f = number_at t b n (Aggregate a) h

  within_number : (k n : ℕ) (ty : Ty) → n < k → slice_get t.types n ≡ Some ty
      → type_number t (type_within t k n) ≡ Some n
  unfolding type_within
  within_number zero n ty l h = absurd (omega (arith, l))
  within_number (suc k) n ty l h =
      rw h (of_row_number (type_within t k) n ty h (λ e p. smaller (λ j x m q. within_number k j x m q) e p))
    where
      some_below : (xs : List Ty) (e : ℕ) → e < length xs → (x : Ty) × (slice_get xs e ≡ Some x)
      some_below [] e l = absurd (omega (arith, l))
      some_below (x ∷ xs) zero l = (x, refl)
      some_below (x ∷ xs) (suc e) l = some_below xs e (omega (arith, l))

      smaller : ((j : ℕ) (x : Ty) → j < k → slice_get t.types j ≡ Some x → type_number t (type_within t k j) ≡ Some j)
          → (e : ℕ) → ty ≡ Ptr e → type_number t (type_within t k e) ≡ Some e
      smaller f e p =
          let q : slice_get t.types n ≡ Some (Ptr e) = h ∙ ap (λ (x : Ty). Some x) p in
          let less = target_before t b n e q in
          let row = some_below t.types e (omega (arith, less, slice_get_within t.types n _ q)) in
          f e row.0 (omega (arith, less, l)) row.1

  pub type_of_number : (n : ℕ) (ty : Ty) → slice_get t.types n ≡ Some ty → type_number t (type_of t n) ≡ Some n
  type_of_number n ty h = within_number (length t.types) n ty (slice_get_within t.types n ty h) h
