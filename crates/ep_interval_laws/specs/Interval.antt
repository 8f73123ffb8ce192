-- Intervals of numbers, and what does not depend on an operator (this project's rules).
use Rattle.std.specs.Prelude.{◌≡◌, ℕ, ◌+◌, ℤ, pos, ◌+ℤ◌, ◌-ℤ◌, Bool, true, false, ◌&&◌, Option, Some, None, int_le}
use Rattle.std.specs.Prelude.{if◌then◌else◌, refl, IsTrue}
use Rattle.std.specs.Option.{option_map, option_zip}
use Rattle.std.specs.Int.{int_min, int_max}
use Rattle.ep_int.specs.declared.types.IntType.{IntType}
use Rattle.ep_int.specs.declared.types.Cmp.{Cmp}
use Rattle.ep_int.specs.declared.types.Cmp.TheVariants.{Eq, Ne, Lt, Le, Gt, Ge}
use Rattle.ep_int.specs.Types.{least_of, greatest_of}
use Rattle.ep_int.specs.Arith.{int_eq}
use Rattle.ep_range_laws.specs.Ranges.{IsRange}
use Rattle.ep_interval_laws.specs.Ends.{is_range, nearest_number, lowered, raised, low_rank, high_rank, wrapped_low}
use Rattle.ep_interval_laws.specs.Ends.{wrapped_high, low_apart, high_apart}
use Rattle.ep_interval_laws.specs.Ranges.{is_range_true, range_of_type, range_of_one, range_of_join}
use Rattle.ep_interval_laws.specs.Ranges.{range_of_widening, range_of_conversion}

-- two ends in order, of some integer type each, and the numbers between them
pub record Interval : Type 0 where
  pub lo : ℤ
  pub hi : ℤ
  pub ends : IsRange lo hi

abbrev pub interval : (lo hi : ℤ) → IsRange lo hi → Interval
interval lo hi p = record { lo = lo; hi = hi; ends = p }

abbrev pub ends_of : Interval → ℤ × ℤ
ends_of a = (a.lo, a.hi)

abbrev pub between_at : (lo hi : ℤ) (b : Bool) → is_range lo hi ≡ b → Option Interval
between_at lo hi true e = Some (interval lo hi (is_range_true lo hi e))
between_at lo hi false e = None

-- the interval of two ends, where they are those of a range
abbrev pub between : ℤ → ℤ → Option Interval
between lo hi = between_at lo hi (is_range lo hi) refl

abbrev pub holds_of : Interval → ℤ → Bool
holds_of a z = int_le a.lo z && int_le z a.hi

-- the number lies in the interval
abbrev pub HasNumber : Interval → ℤ → Type 0
HasNumber a z = IsTrue (holds_of a z)

-- the range of a type
abbrev pub top_of : IntType → Interval
top_of t = interval (least_of t) (greatest_of t) (range_of_type t)

abbrev pub single_of : ℤ → Interval
single_of v = interval (nearest_number v) (nearest_number v) (range_of_one v)

abbrev pub is_within : Interval → Interval → Bool
is_within a b = int_le b.lo a.lo && int_le a.hi b.hi

-- the least interval that has both
abbrev pub join_of : Interval → Interval → Interval
join_of a b = interval (int_min a.lo b.lo) (int_max a.hi b.hi) (range_of_join a.lo a.hi b.lo b.hi a.ends b.ends)

-- the part from lo to hi
abbrev pub overlap : Interval → ℤ → ℤ → Option Interval
overlap a lo hi = between (int_max a.lo lo) (int_min a.hi hi)

abbrev pub meet_of : Interval → Interval → Option Interval
meet_of a b = overlap a b.lo b.hi

abbrev pub edges_of : Interval → ℤ → ℤ → Option (ℤ × ℤ)
edges_of a lo hi = option_map ends_of (overlap a lo hi)

-- ---- widening

abbrev pub widening_of : Interval → Interval → Interval
widening_of a b = interval (lowered a.lo b.lo) (raised a.hi b.hi) (range_of_widening a.lo a.hi b.lo b.hi a.ends b.ends)

abbrev pub rank_of : Interval → ℕ
rank_of a = low_rank a.lo + high_rank a.hi

-- ---- conversion

abbrev pub conversion_of : Interval → IntType → Interval
conversion_of a t = interval (wrapped_low t a.lo a.hi)
    (wrapped_high t a.lo a.hi) (range_of_conversion t a.lo a.hi a.ends)

-- ---- comparisons

-- the numbers that differ from that of a single, as far as they are an interval
abbrev pub apart_from : Interval → Interval → Option Interval
apart_from a b = if int_eq b.lo b.hi then between (low_apart a.lo b.lo) (high_apart a.hi b.lo) else Some a

-- the ends cut by the comparison
abbrev pub filter_of : Cmp → Interval → Interval → Option (Interval × Interval)
filter_of Eq a b = option_zip (meet_of a b) (meet_of b a)
filter_of Ne a b = option_zip (apart_from a b) (apart_from b a)
filter_of Lt a b = option_zip (overlap a a.lo (b.hi -ℤ pos 1)) (overlap b (a.lo +ℤ pos 1) b.hi)
filter_of Le a b = option_zip (overlap a a.lo b.hi) (overlap b a.lo b.hi)
filter_of Gt a b = option_zip (overlap a (b.lo +ℤ pos 1) a.hi) (overlap b b.lo (a.hi -ℤ pos 1))
filter_of Ge a b = option_zip (overlap a b.lo a.hi) (overlap b b.lo a.hi)
