-- Cases of tests and of options.
use Rattle.std.proofs.Common.{◌≡◌, ℕ, List, [], ◌∷◌, is_none, ◌&&◌, Bool, true, false, Option, Some, None, refl, inl}
use Rattle.ep_int.proofs.Basics.{bytes_eq-equal}
use Rattle.std.proofs.lemmas.Bool.{cases_Bool}
use Rattle.std.proofs.Common.{inr, ◌⊎◌, arith, ◌==◌}
use Rattle.std.specs.Option.{option_map}
use Rattle.std.proofs.lemmas.Bool.Decides.{nat_tests}

pub option_cases : {A : Type 0} (o : Option A) → (o ≡ None) ⊎ ((x : A) × (o ≡ Some x))
option_cases None = inl refl
option_cases (Some x) = inr (x, refl)

pub mapped_none : {A B : Type 0} (f : A → B) (o : Option A) → is_none (option_map f o) ≡ is_none o
mapped_none f None = refl
mapped_none f (Some x) = refl

pub is_number : (b c : ℕ) → b == c ≡ true → b ≡ c
is_number b c h = grind (arith, nat_tests)

pub no_number : (b c : ℕ) → (b ≡ c → ⊥) → b == c ≡ false
no_number b c h = grind (arith, nat_tests)

pub none_some : {A : Type 0} {x : A} {o : Option A} → o ≡ None → o ≡ Some x → ⊥
none_some e f = cc

pub true_false : {b : Bool} → b ≡ true → b ≡ false → ⊥
true_false e f = cc

pub is_no_value : {A : Type 0} (o : Option A) → is_none o ≡ true → o ≡ None
is_no_value None h = refl
is_no_value (Some x) h = absurd cc

same_head : {x y : ℕ} {xs ys : List ℕ} → x ≡ y → xs ≡ ys → x ∷ xs ≡ y ∷ ys
same_head e f = cc
