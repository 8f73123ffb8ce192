-- That the ends of intervals are ranges.
use Rattle.std.proofs.Common.{◌≡◌, ℤ, ◌-ℤ◌, ◌≤ℤ◌, Bool, true, false, cond, ◌&&◌, arith, refl}
use Rattle.ep_int.proofs.Arithmetic.{le_fact, le_test}
use Rattle.std.specs.Prelude.{int_le, int_lt}
use Rattle.std.specs.Int.{int_min, int_max}
use Rattle.std.proofs.lemmas.Bool.{and_parts, and_from}
use Rattle.std.proofs.lemmas.Int.{ints, clamps}
use Rattle.ep_int.specs.declared.types.IntType.{IntType}
use Rattle.ep_int.specs.declared.types.IntType.TheVariants.{I64, U64}
use Rattle.ep_int.specs.Types.{least_of, greatest_of, wrapped}
use Rattle.ep_int.proofs.Wrapping.{wrapped_in_range}
use Rattle.ep_range_laws.specs.Ranges.{IsRange}
use Rattle.ep_range_laws.proofs.Comparisons.{from_lt_true, from_lt_false, from_between}
use Rattle.ep_range_laws.proofs.Comparisons.{le_trans, le_self}
use Rattle.ep_range_laws.proofs.Types.{number_low, number_high, ends_ordered}
use Rattle.ep_interval_laws.specs.Ends.{is_range, nearest_number, low_limit, high_limit, lowered, raised}
use Rattle.ep_interval_laws.specs.Ends.{in_one_stretch, wrapped_low, wrapped_high}

pub is_range_true : (lo hi : ℤ) → is_range lo hi ≡ true → IsRange lo hi
is_range_true lo hi e =
    let p = and_parts (int_le (least_of I64) lo && int_le lo hi) (int_le hi (greatest_of U64)) e in
    let q = from_between _ _ _ _ p.0 in
    record { above = q.0; ordered = q.1; below = le_fact _ _ p.1 }

pub is_range_from : (lo hi : ℤ) → IsRange lo hi → is_range lo hi ≡ true
is_range_from lo hi h = and_from _ _ (and_from _ _ (le_test _ _ h.above) (le_test _ _ h.ordered)) (le_test _ _ h.below)

pub range_of_type : (t : IntType) → IsRange (least_of t) (greatest_of t)
range_of_type t = record { above = number_low t; ordered = ends_ordered t; below = number_high t }

pub range_of_one : (v : ℤ) → IsRange (nearest_number v) (nearest_number v)
range_of_one v =
    record {
      above = omega (arith, ints, clamps);
      ordered = omega (arith, ints, clamps);
      below = omega (arith, ints, clamps);
    }

pub range_of_join : (a b c d : ℤ) → IsRange a b → IsRange c d → IsRange (int_min a c) (int_max b d)
range_of_join a b c d h k =
    let p = h.above in let q = h.ordered in let r = h.below in
    let p' = k.above in let q' = k.ordered in let r' = k.below in
    record {
      above = omega (arith, ints, clamps);
      ordered = omega (arith, ints, clamps);
      below = omega (arith, ints, clamps);
    }

pub low_limit_below : (v : ℤ) → least_of I64 ≤ℤ v → low_limit v ≤ℤ v
low_limit_below v h = grind (arith, ints)

pub low_limit_least : (v : ℤ) → least_of I64 ≤ℤ low_limit v
low_limit_least v = grind (arith, ints)

pub high_limit_above : (v : ℤ) → v ≤ℤ greatest_of U64 → v ≤ℤ high_limit v
high_limit_above v h = grind (arith, ints)

pub high_limit_greatest : (v : ℤ) → high_limit v ≤ℤ greatest_of U64
high_limit_greatest v = grind (arith, ints)

pub lowered_kept : (a b : ℤ) → least_of I64 ≤ℤ b → lowered a b ≤ℤ a
lowered_kept a b h = by_test (int_lt b a) refl
  where
    by_test : (t : Bool) → int_lt b a ≡ t → cond t (low_limit b) a ≤ℤ a
    by_test true e = let l = low_limit_below b h in let m = from_lt_true b a e in le_trans _ _ _ l (omega (arith, ints))
    by_test false e = le_self a

pub lowered_new : (a b : ℤ) → least_of I64 ≤ℤ b → lowered a b ≤ℤ b
lowered_new a b h = by_test (int_lt b a) refl
  where
    by_test : (t : Bool) → int_lt b a ≡ t → cond t (low_limit b) a ≤ℤ b
    by_test true e = low_limit_below b h
    by_test false e = from_lt_false b a e

pub lowered_least : (a b : ℤ) → least_of I64 ≤ℤ a → least_of I64 ≤ℤ lowered a b
lowered_least a b h = by_test (int_lt b a)
  where
    by_test : (t : Bool) → least_of I64 ≤ℤ cond t (low_limit b) a
    by_test true = low_limit_least b
    by_test false = h

pub raised_kept : (a b : ℤ) → b ≤ℤ greatest_of U64 → a ≤ℤ raised a b
raised_kept a b h = by_test (int_lt a b) refl
  where
    by_test : (t : Bool) → int_lt a b ≡ t → a ≤ℤ cond t (high_limit b) a
    by_test true e = let l = high_limit_above b h in let m = from_lt_true a b e in
        le_trans a b _ (omega (arith, ints)) l
    by_test false e = le_self a

pub raised_new : (a b : ℤ) → b ≤ℤ greatest_of U64 → b ≤ℤ raised a b
raised_new a b h = by_test (int_lt a b) refl
  where
    by_test : (t : Bool) → int_lt a b ≡ t → b ≤ℤ cond t (high_limit b) a
    by_test true e = high_limit_above b h
    by_test false e = from_lt_false a b e

pub raised_greatest : (a b : ℤ) → a ≤ℤ greatest_of U64 → raised a b ≤ℤ greatest_of U64
raised_greatest a b h = by_test (int_lt a b)
  where
    by_test : (t : Bool) → cond t (high_limit b) a ≤ℤ greatest_of U64
    by_test true = high_limit_greatest b
    by_test false = h

pub range_of_widening : (a b c d : ℤ) → IsRange a b → IsRange c d → IsRange (lowered a c) (raised b d)
range_of_widening a b c d h k = record {
  above = lowered_least a c h.above;
  ordered = le_trans _ _ _ (lowered_kept a c k.above) (le_trans _ _ _ h.ordered (raised_kept b d k.below));
  below = raised_greatest b d h.below;
}

pub range_of_conversion : (t : IntType) (lo hi : ℤ) → IsRange lo hi
    → IsRange (wrapped_low t lo hi) (wrapped_high t lo hi)
range_of_conversion t lo hi h = by_test (in_one_stretch t lo hi) refl
  where
    order : (l h w v : ℤ) → l ≤ℤ h → (h -ℤ v) ≤ℤ (l -ℤ w) → w ≤ℤ v
    order l h w v p q = omega (arith, ints)

    by_test : (b : Bool) → in_one_stretch t lo hi ≡ b
        → IsRange (cond b (wrapped t lo) (least_of t)) (cond b (wrapped t hi) (greatest_of t))
    by_test true e =
        let p = wrapped_in_range t lo in let q = wrapped_in_range t hi in
        let r = from_between (lo -ℤ wrapped t lo) (hi -ℤ wrapped t hi) (hi -ℤ wrapped t hi) (lo -ℤ wrapped t lo) e in
        record {
          above = le_trans (least_of I64) (least_of t) (wrapped t lo) (number_low t) p.low;
          ordered = order lo hi (wrapped t lo) (wrapped t hi) h.ordered r.1;
          below = le_trans (wrapped t hi) (greatest_of t) (greatest_of U64) q.high (number_high t);
        }
    by_test false e = range_of_type t
