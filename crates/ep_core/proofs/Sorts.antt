-- What the tests of well-formed programs tell.
use Rattle.std.proofs.Common.{◌≡◌, ℕ, zero, suc, Bool, true, false, ◌&&◌, ◌||◌, not, cond, nat_eq, List, [], ◌∷◌}
use Rattle.std.proofs.lemmas.Bool.{not-true, or_cases}
use Rattle.std.proofs.Common.{slice_get, Option, Some, None, ◌⊎◌, ⊎_elim, refl, sym, ap, ◌∙◌, subst}
use Rattle.std.specs.List.{list_any, list_all, filter}
use Rattle.std.proofs.lemmas.Bool.{and_parts, eqb-true}
use Rattle.ep_int.specs.declared.types.IntType.{IntType}
use Rattle.ep_int.specs.declared.types.IntType.TheVariants.{I8, U8, I16, U16, I32, U32, I64, U64}
use Rattle.ep_int.specs.declared.types.Scalar.{Scalar}
use Rattle.ep_int.specs.declared.types.Scalar.TheVariants.{Int as Number, Pointer}
use Rattle.ep_layout.specs.declared.types.Ty.{Ty}
use Rattle.ep_layout.specs.declared.types.Ty.TheVariants.{Void, Int, Ptr, Array, Aggregate}
use Rattle.ep_layout.specs.Table.{Table}
use Rattle.ep_core.specs.Program.{Expr, Block}
use Rattle.ep_core.specs.WellFormed.{number_of_type, is_same_type, is_same_scalar, Sort, integer, pointer_to}
use Rattle.ep_core.specs.WellFormed.{is_integer, is_pointer_where, sort_of, is_sort, has_scalar, is_int, ty_at}
use Rattle.ep_core.specs.WellFormed.{type_numbers, some_type, is_pointer, is_test, has_sort, has_type}
use Rattle.ep_core.specs.Typed.{scalar_of}

-- ---- tests

pub never : {A : Type 0} → false ≡ true → A
never h = absurd (cc)

pub three : (a b c : Bool) → (a && b && c) ≡ true → (a ≡ true) × (b ≡ true) × (c ≡ true)
three a b c h =
    let most = and_parts (a && b) c h in
    let first = and_parts a b most.0 in
    (first.0, first.1, most.1)

pub any_where : (test : ℕ → Bool) (xs : List ℕ) → list_any test xs ≡ true → (x : ℕ) × (test x ≡ true)
any_where test [] h = never h
any_where test (x ∷ xs) h = ⊎_elim (λ a. (x, a)) (λ b. any_where test xs b) (or_cases (test x) (list_any test xs) h)

kept_where : (keep test : ℕ → Bool) (xs : List ℕ) → list_any test (filter keep xs) ≡ true
    → (x : ℕ) × (keep x ≡ true) × (test x ≡ true)
kept_where keep test [] h = never h
kept_where keep test (x ∷ xs) h = split (keep x) refl h (kept_where keep test xs)
  where
    split : (t : Bool) → keep x ≡ t → list_any test (cond t (x ∷ filter keep xs) (filter keep xs)) ≡ true
        → (list_any test (filter keep xs) ≡ true → (x : ℕ) × (keep x ≡ true) × (test x ≡ true))
        → (x : ℕ) × (keep x ≡ true) × (test x ≡ true)
    split true e h later = ⊎_elim (λ a. (x, e, a)) later (or_cases (test x) (list_any test (filter keep xs)) h)
    split false e h later = later h

pub all_at : {A : Type 0} (test : A → Bool) (xs : List A) (k : ℕ) (x : A) → list_all test xs ≡ true
    → slice_get xs k ≡ Some x → test x ≡ true
all_at test [] k x h e = absurd (cc)
all_at test (y ∷ xs) zero x h e = let same : y ≡ x = cc in subst (λ z. test z ≡ true) same
    (and_parts (test y) (list_all test xs) h).0
all_at test (y ∷ xs) (suc k) x h e = all_at test xs k x (and_parts (test y) (list_all test xs) h).1 e

-- ---- types and scalars

abbrev named : ℕ → IntType
named zero = I8
named (suc zero) = U8
named (suc (suc zero)) = I16
named (suc (suc (suc zero))) = U16
named (suc (suc (suc (suc zero)))) = I32
named (suc (suc (suc (suc (suc zero))))) = U32
named (suc (suc (suc (suc (suc (suc zero)))))) = I64
named (suc (suc (suc (suc (suc (suc (suc n))))))) = U64

named_again : (t : IntType) → named (number_of_type t) ≡ t
named_again I8 = refl
named_again U8 = refl
named_again I16 = refl
named_again U16 = refl
named_again I32 = refl
named_again U32 = refl
named_again I64 = refl
named_again U64 = refl

pub same_type : (t u : IntType) → is_same_type t u ≡ true → t ≡ u
same_type t u h = sym (named_again t) ∙ ap named (eqb-true (number_of_type t) (number_of_type u) h) ∙ named_again u

pub same_scalar : (a b : Scalar) → is_same_scalar a b ≡ true → a ≡ b
same_scalar (Number t) (Number u) h = ap Number (same_type t u h)
same_scalar (Number t) Pointer h = never h
same_scalar Pointer (Number u) h = never h
same_scalar Pointer Pointer h = refl

pub integer_scalar : (x : Sort) (t : IntType) → is_integer x t ≡ true → Number t ≡ scalar_of x
integer_scalar (integer u) t h = ap Number (sym (same_type u t h))
integer_scalar (pointer_to ty) t h = never h

pub pointer_scalar : (x : Sort) (test : ℕ → Bool) → is_pointer_where x test ≡ true → Pointer ≡ scalar_of x
pointer_scalar (integer t) test h = never h
pointer_scalar (pointer_to ty) test h = refl

-- a scalar is that of the sort of its type
pub sort_scalar : (u : Option Ty) (what : Scalar) (x : Sort) → has_scalar u what ≡ true → sort_of u ≡ Some x
    → what ≡ scalar_of x
sort_scalar (Some (Int t)) what x h e = let same : integer t ≡ x = cc in sym (same_scalar (Number t) what h) ∙ ap
    scalar_of same
sort_scalar (Some (Ptr ty)) what x h e = let same : pointer_to ty ≡ x = cc in sym (same_scalar Pointer what h) ∙ ap
    scalar_of same
sort_scalar (Some Void) what x h e = never h
sort_scalar (Some (Array ty n)) what x h e = never h
sort_scalar (Some (Aggregate a)) what x h e = never h
sort_scalar None what x h e = never h

pub loaded_scalar : (u : Option Ty) (what : Scalar) (x : Sort) → (has_scalar u what && is_sort (sort_of u) x) ≡ true
    → what ≡ scalar_of x
loaded_scalar (Some (Int t)) what x h =
    let s = and_parts (is_same_scalar (Number t) what) (is_integer x t) h in
    sym (same_scalar (Number t) what s.0) ∙ integer_scalar x t s.1
loaded_scalar (Some (Ptr ty)) what x h =
    let s = and_parts (is_same_scalar Pointer what) (is_pointer_where x (nat_eq ty)) h in
    sym (same_scalar Pointer what s.0) ∙ pointer_scalar x (nat_eq ty) s.1
loaded_scalar (Some Void) what x h = never h
loaded_scalar (Some (Array ty n)) what x h = never h
loaded_scalar (Some (Aggregate a)) what x h = never h
loaded_scalar None what x h = never h

-- a scalar of a type that isn't a pointer is a number
pub number_scalar : (u : Option Ty) (what : Scalar) → (has_scalar u what && not (has_scalar u Pointer)) ≡ true
    → (t : IntType) × (what ≡ Number t)
number_scalar (Some (Int t)) what h =
    (t, sym (same_scalar (Number t) what (and_parts (is_same_scalar (Number t) what) true h).0))
number_scalar (Some (Ptr ty)) what h = never (and_parts (is_same_scalar Pointer what) false h).1
number_scalar (Some Void) what h = never h
number_scalar (Some (Array ty n)) what h = never h
number_scalar (Some (Aggregate a)) what h = never h
number_scalar None what h = never h

-- ---- sorts

pub int_where : (own : Option IntType) (has : Sort → Bool) → is_int own has ≡ true
    → (t : IntType) × (own ≡ Some t) × (has (integer t) ≡ true)
int_where None has h = never h
int_where (Some t) has h = (t, refl, h)

module _ (t : Table) (bs : List Block) (seen : List ℕ) where
  pub type_where : (kind : Option Ty → Bool) (test : ℕ → Bool) → some_type t bs seen kind test ≡ true
      → (ty : ℕ) × (kind (ty_at t bs seen ty) ≡ true) × (test ty ≡ true)
  type_where kind test h = kept_where (λ ty. kind (ty_at t bs seen ty)) test (type_numbers t bs seen) h

  pub pointer_where : (has : Sort → Bool) → is_pointer t bs seen has ≡ true → (ty : ℕ) × (has (pointer_to ty) ≡ true)
  pointer_where has h = any_where (λ ty. has (pointer_to ty)) (type_numbers t bs seen) h

  pub tested_where : (own : Option IntType) (has : Sort → Bool) → is_test t bs seen own has ≡ true
      → (x : Sort) × (has x ≡ true)
  tested_where own has h =
      ⊎_elim (λ a. (let i = int_where own has a in (integer i.0, i.2)))
      (λ b. (let i = pointer_where has b in (pointer_to i.0, i.1)))
      (or_cases (is_int own has) (is_pointer t bs seen has) h)

  pub typed_where : (e : Expr) (ty : ℕ) → has_type t bs seen e ty ≡ true
      → (x : Sort) × (sort_of (ty_at t bs seen ty) ≡ Some x) × (has_sort t bs seen e x ≡ true)
  typed_where e ty h = split (sort_of (ty_at t bs seen ty)) refl
    where
      split : (s : Option Sort) → sort_of (ty_at t bs seen ty) ≡ s
          → (x : Sort) × (sort_of (ty_at t bs seen ty) ≡ Some x) × (has_sort t bs seen e x ≡ true)
      split None q = never (rw q at h)
      split (Some x) q = (x, q, rw q at h)
