use Rattle.std.proofs.Common.{◌≡◌, ℤ, pos, ◌⊎◌, inl, inr, Bool, true, false, cond, IfSome, refl, subst}
use Rattle.ep_int.specs.declared.types.IntType.{IntType}
use Rattle.ep_int.specs.declared.types.IntType.TheVariants.{I64, U64}
use Rattle.ep_int.specs.Types.{is_signed, least_of, greatest_of}
use Rattle.ep_int.proofs.Basics.{if_some-map}
use Rattle.ep_range_laws.specs.Ranges.{Encloses}
use Rattle.ep_domain.specs.Pairs.{settled}
use Rattle.ep_congruence_laws.specs.Classes.{is_one}
use Rattle.ep_congruence_domain.specs.Congruence.{Congruence, class_of, range_of}
use Rattle.ep_congruence_domain.proofs.Lawful.{congruence_laws}
use Rattle.ep_interval_laws.specs.Interval.{Interval, ends_of, conversion_of}
use Rattle.ep_interval_laws.specs.Results.{value_of}
use Rattle.ep_interval_laws.proofs.Lawful.{interval_laws}
use Rattle.ep_mover_numbers.proofs.Conversions.{converted_in, fitting, part_in}
use Rattle.ep_mover_numbers.proofs.Pairs.{IsWide, outcome_in, conversion_in, settled_in}
use Rattle.ep_mover_numbers.proofs.Results.{InType, zero_least, value_in}
use Rattle.ep_mover_numbers.proofs.natural_laws.Goals as goal

wide : (c : Congruence) → IsWide (range_of c)
wide c = at (is_one (class_of c))
  where
    at : (b : Bool)
        → IsWide (cond b ((class_of c).remainder, (class_of c).remainder) (least_of I64, greatest_of U64))
    at true = inl refl
    at false = inr refl

natural : (t : IntType) → is_signed t ≡ false → (c : Interval) → InType t c → Encloses (pos 0, greatest_of t) (ends_of c)
natural t s c h = subst (λ z. Encloses (z, greatest_of t) (ends_of c)) (zero_least t s) h

pub returns : goal.returns
returns c = record {
  op = λ o t a b s. outcome_in _ _ interval_laws congruence_laws part_in (pos 0, greatest_of t) o t
      (λ x y. if_some-map (InType t) (λ c. Encloses (pos 0, greatest_of t) (ends_of c)) (value_of o t x y)
      (λ c h. natural t s c h) (value_in t s o x y)) a b;
  converted = λ t a z h s. conversion_in _ _ interval_laws congruence_laws part_in (pos 0, greatest_of t) a t z h
      (natural t s (conversion_of (settled a).left t) (converted_in t (settled a).left));
  fits = λ t a z h k. conversion_in _ _ interval_laws congruence_laws part_in (pos 0, greatest_of t) a t z h
      (fitting t (settled a).left
      (settled_in _ _ interval_laws congruence_laws part_in (pos 0, greatest_of t) wide a k));
}
