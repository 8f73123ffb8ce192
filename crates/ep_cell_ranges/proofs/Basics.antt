-- Lemmas that several crates cite.
use Rattle.std.proofs.Common.{◌≡◌, ◌≤◌, ◌+◌, ◌&&◌, nat_le, nat_eq, true, refl, ℕ, ap, ◌∙◌, arith}
use Rattle.std.proofs.lemmas.Bool.Decides.{nat_tests}
use Rattle.ep_int.specs.declared.types.Model.{Model}
use Rattle.ep_int.specs.declared.types.Model.TheVariants.{Ilp32, Lp64}
use Rattle.ep_cell_ranges.specs.Tests.{is_model}
use Rattle.std.proofs.lemmas.Bool.{and_parts, and_from, eqb-true, eq-eqb}
use Rattle.ep_cell_ranges.specs.Spots.{Spot, is_same_spot}

pub is_model-equal : (a b : Model) → is_model a b ≡ true → a ≡ b
is_model-equal Ilp32 Ilp32 e = refl
is_model-equal Ilp32 Lp64 e = absurd cc
is_model-equal Lp64 Ilp32 e = absurd cc
is_model-equal Lp64 Lp64 e = refl

pub is_same_spot-equal : (q r : Spot) → is_same_spot q r ≡ true → q ≡ r
is_same_spot-equal q r e =
    let h = and_parts _ _ e in
    let a : q.0 ≡ r.0 = eqb-true q.0 r.0 h.0 in
    let b : q.1 ≡ r.1 = eqb-true q.1 r.1 h.1 in
    ap (λ (x : ℕ). (x, q.1)) a ∙ ap (λ (x : ℕ). (r.0, x)) b

pub is_model-self : (a : Model) → is_model a a ≡ true
is_model-self Ilp32 = refl
is_model-self Lp64 = refl

pub inside_by : (a n q z : ℕ) → a ≤ q → q + z ≤ a + n → (nat_le a q && nat_le (q + z) (a + n)) ≡ true
inside_by a n q z h i = grind (arith, nat_tests)

pub same_spot : (q r : Spot) → q ≡ r → is_same_spot q r ≡ true
same_spot q r e =
    and_from (nat_eq q.0 r.0) (nat_eq q.1 r.1) (eq-eqb q.0 r.0 (ap (λ (s : Spot). s.0) e))
    (eq-eqb q.1 r.1 (ap (λ (s : Spot). s.1) e))
