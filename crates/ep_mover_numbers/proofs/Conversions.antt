-- Conversions of intervals.
use Rattle.std.proofs.Common.{◌≡◌, ℤ, pos, ◌-ℤ◌, ◌≤ℤ◌, Bool, true, false, cond, refl, sym, ap, ◌∙◌, subst, arith}
use Rattle.std.specs.Int.{int_min, int_max}
use Rattle.std.proofs.lemmas.Int.{ints, clamps}
use Rattle.std.proofs.Common.{IfSome}
use Rattle.ep_int.specs.declared.types.IntType.{IntType}
use Rattle.ep_int.specs.Types.{least_of, greatest_of, InRange, wrapped}
use Rattle.ep_int.specs.Arith.{int_eq}
use Rattle.ep_int.proofs.Arithmetic.{zero_in_range}
use Rattle.ep_int.proofs.Wrapping.{wrapped_same}
use Rattle.ep_range_laws.specs.Ranges.{Encloses}
use Rattle.ep_range_laws.proofs.Comparisons.{between_true, le_self, le_trans}
use Rattle.ep_interval_laws.specs.Ends.{in_one_stretch, wrapped_low, wrapped_high}
use Rattle.ep_interval_laws.specs.Interval.{Interval, ends_of, overlap, conversion_of}
use Rattle.ep_interval_laws.proofs.Between.{between_parts}
use Rattle.ep_mover_numbers.proofs.Results.{InType, low_in, high_in}

pub converted_in : (t : IntType) (a : Interval) → InType t (conversion_of a t)
converted_in t a = record { low = low_in t a.lo a.hi; high = high_in t a.lo a.hi }

no_way : (x y : ℤ) → y ≡ x → (x -ℤ y) ≡ pos 0
no_way x y e = omega (arith, ints)

-- what fits stays
pub fitting : (t : IntType) (a : Interval) → Encloses (pos 0, greatest_of t) (ends_of a)
    → Encloses (pos 0, greatest_of t) (ends_of (conversion_of a t))
fitting t a h = record {
  low = subst (λ z. pos 0 ≤ℤ z) (sym (ap (λ b. cond b (wrapped t a.lo) (least_of t)) stretch ∙ wrapped_same t a.lo low)) h.low;
  high = high_in t a.lo a.hi;
}
  where
    zero_low : least_of t ≤ℤ pos 0
    zero_low = let z = zero_in_range t in z.low

    low : InRange t a.lo
    low = record {
      low = le_trans (least_of t) (pos 0) a.lo zero_low h.low;
      high = le_trans a.lo a.hi (greatest_of t) a.ends.ordered h.high;
    }

    high : InRange t a.hi
    high = record {
      low = le_trans (least_of t) a.lo a.hi (le_trans (least_of t) (pos 0) a.lo zero_low h.low) a.ends.ordered;
      high = h.high;
    }

    stretch : in_one_stretch t a.lo a.hi ≡ true
    stretch =
        let p = no_way a.lo (wrapped t a.lo) (wrapped_same t a.lo low) in
        let q = no_way a.hi (wrapped t a.hi) (wrapped_same t a.hi high) in
        subst (λ z. int_eq (a.lo -ℤ wrapped t a.lo) z ≡ true) (p ∙ sym q)
        (let w = a.lo -ℤ wrapped t a.lo in between_true w w w w (le_self w) (le_self w))

pub part_in : (a : Interval) (lo hi : ℤ) → IfSome (overlap a lo hi) (λ c. Encloses (ends_of a) (ends_of c))
part_in a lo hi =
    between_parts (int_max a.lo lo) (int_min a.hi hi) (λ c. Encloses (ends_of a) (ends_of c)) (λ p.
    record { low = omega (arith, ints, clamps); high = omega (arith, ints, clamps) })
