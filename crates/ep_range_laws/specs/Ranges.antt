-- Ranges of numbers.
use Rattle.std.specs.Prelude.{ℤ, ◌≤ℤ◌}
use Rattle.std.specs.Int.{int_min, int_max}
use Rattle.ep_int.specs.declared.types.IntType.TheVariants.{I64, U64}
use Rattle.ep_int.specs.Types.{least_of, greatest_of}

-- the two ends of a range of numbers of the integer types, from -2^63 to 2^64 - 1
pub record IsRange (low high : ℤ) : Type 0 where
  pub above : least_of I64 ≤ℤ low
  pub ordered : low ≤ℤ high
  pub below : high ≤ℤ greatest_of U64

-- a number from the low to the high end of a range
pub record LiesIn (range : ℤ × ℤ) (v : ℤ) : Type 0 where
  pub low : range.0 ≤ℤ v
  pub high : v ≤ℤ range.1

-- the first range has each number of the second
pub record Encloses (range inner : ℤ × ℤ) : Type 0 where
  pub low : range.0 ≤ℤ inner.0
  pub high : inner.1 ≤ℤ range.1

-- the nearest number of some integer type
abbrev pub nearest_number : ℤ → ℤ
nearest_number v = int_max (least_of I64) (int_min v (greatest_of U64))
