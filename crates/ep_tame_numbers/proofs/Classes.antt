-- Congruences keep single numbers.
use Rattle.std.proofs.Common.{◌≡◌, ℕ, ℤ, pos, ◌-ℤ◌, ◌≤ℤ◌, ◌⊎◌, inl, inr, Option, Some, None, IfSome, refl, ap, ◌∙◌}
use Rattle.std.proofs.Common.{arith}
use Rattle.std.specs.Prelude.{unsigned_abs}
use Rattle.std.specs.Option.{option_and_then}
use Rattle.std.proofs.lemmas.Int.{ints}
use Rattle.ep_int.specs.Arith.{IsOfSomeType}
use Rattle.ep_range_laws.specs.Ranges.{nearest_number}
use Rattle.ep_congruence_laws.specs.Multiples.{gcd, gcd_steps}
use Rattle.ep_congruence_laws.specs.Classes as classes
use Rattle.ep_congruence_laws.specs.Classes.{Class, one, reduced}
use Rattle.ep_congruence_laws.proofs.Operations.{In, one_member}
use Rattle.ep_congruence_laws.proofs.Cuts.{IsCut, cut_is}
use Rattle.ep_congruence_domain.specs.Congruence.{Congruence, class_of, single_of, join_of, formed}
use Rattle.ep_congruence_domain.specs.Domain.{congruence_ops}
use Rattle.ep_congruence_domain.proofs.Formed.{same_class, then_kept}
use Rattle.ep_tame_numbers.proofs.Parts.{KeepsSingles}

-- a cut of one number is that number
one_cut : (n lo hi : ℤ) → IfSome (classes.cut_of (one n) lo hi) (λ f. f ≡ one n)
one_cut n lo hi = at (classes.cut_of (one n) lo hi) (cut_is (one n) lo hi)
  where
    of : (d : Class)
        → (d ≡ one n) ⊎ ((v : ℤ) × (d ≡ one v) × IsOfSomeType v × In (one n) v × (lo ≤ℤ v) × (v ≤ℤ hi))
        → d ≡ one n
    of d (inl f) = f
    of d (inr w) = w.1 ∙ ap one (one_member (one n) w.0 refl w.3)

    at : (o : Option Class) → IfSome o (IsCut (one n) lo hi) → IfSome o (λ f. f ≡ one n)
    at None c = tt
    at (Some d) c = of d c.inside

by_class : (o : Option Congruence) (c : Congruence) → IfSome o (λ d. class_of d ≡ class_of c) → IfSome o (λ d. d ≡ c)
by_class None c h = tt
by_class (Some d) c h = same_class d c h

no_distance : (n : ℤ) → unsigned_abs (n -ℤ n) ≡ 0
no_distance n = ap unsigned_abs (apart n)
  where
    apart : (n : ℤ) → n -ℤ n ≡ pos 0
    apart n = omega (arith, ints)

one_join : (n : ℤ) → classes.join_of (one n) (one n) ≡ one n
unfolding gcd_steps
one_join n = ap (λ (m : ℕ). reduced n (gcd (gcd 0 0) m)) (no_distance n)

single_joined : (v : ℤ) → join_of (single_of v) (single_of v) ≡ single_of v
single_joined v = same_class (join_of (single_of v) (single_of v)) (single_of v) (one_join (nearest_number v))

pub congruence_singles : KeepsSingles congruence_ops
congruence_singles = record {
  cut = λ v lo hi i. by_class (option_and_then formed (classes.cut_of (one (nearest_number v)) lo hi)) (single_of v)
      (then_kept (λ k. k ≡ one (nearest_number v)) (classes.cut_of (one (nearest_number v)) lo hi)
      (one_cut (nearest_number v) lo hi));
  join = λ v i. single_joined v;
  widen = λ v i. single_joined v;
}
