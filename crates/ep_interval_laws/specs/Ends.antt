-- The ends of intervals (this project's rules).
use Rattle.std.specs.Prelude.{ℕ, ◌+◌, ℤ, pos, negsuc, ◌+ℤ◌, ◌-ℤ◌, Bool, ◌&&◌, int_le, int_lt, if◌then◌else◌}
use Rattle.std.specs.Int.{int_min, int_max}
use Rattle.ep_int.specs.declared.types.IntType.{IntType}
use Rattle.ep_int.specs.declared.types.IntType.TheVariants.{I64, U64}
use Rattle.ep_int.specs.Types.{least_of, greatest_of, wrapped}
use Rattle.ep_int.specs.Arith.{int_eq}

-- the test for IsRange
abbrev pub is_range : ℤ → ℤ → Bool
is_range lo hi = (int_le (least_of I64) lo && int_le lo hi) && int_le hi (greatest_of U64)

-- the nearest number of some type
abbrev pub nearest_number : ℤ → ℤ
nearest_number v = int_max (least_of I64) (int_min v (greatest_of U64))

-- ---- widening

-- the greatest limit that is not above a lower end
abbrev pub low_limit : ℤ → ℤ
low_limit v =
    if int_le (pos 0) v then pos 0
    else if int_le (negsuc 127) v then negsuc 127
    else if int_le (negsuc 32767) v then negsuc 32767
    else if int_le (negsuc 2147483647) v then negsuc 2147483647
    else negsuc 9223372036854775807

-- the least limit that is not below an upper end
abbrev pub high_limit : ℤ → ℤ
high_limit v =
    if int_le v (pos 0) then pos 0
    else if int_le v (pos 127) then pos 127
    else if int_le v (pos 255) then pos 255
    else if int_le v (pos 32767) then pos 32767
    else if int_le v (pos 65535) then pos 65535
    else if int_le v (pos 2147483647) then pos 2147483647
    else if int_le v (pos 4294967295) then pos 4294967295
    else if int_le v (pos 9223372036854775807) then pos 9223372036854775807
    else pos 18446744073709551615

-- an end that moves goes to a limit
abbrev pub lowered : ℤ → ℤ → ℤ
lowered a b = if int_lt b a then low_limit b else a

abbrev pub raised : ℤ → ℤ → ℤ
raised a b = if int_lt a b then high_limit b else a

abbrev pub one_if : Bool → ℕ
one_if b = if b then 1 else 0

-- how many lower limits are below it
abbrev pub low_rank : ℤ → ℕ
low_rank v =
    one_if (int_lt (pos 0) v) + one_if (int_lt (negsuc 127) v) + one_if (int_lt (negsuc 32767) v)
    + one_if (int_lt (negsuc 2147483647) v) + one_if (int_lt (negsuc 9223372036854775807) v)

-- how many upper limits are above it
abbrev pub high_rank : ℤ → ℕ
high_rank v =
    one_if (int_lt v (pos 0)) + one_if (int_lt v (pos 127)) + one_if (int_lt v (pos 255))
    + one_if (int_lt v (pos 32767)) + one_if (int_lt v (pos 65535))
    + one_if (int_lt v (pos 2147483647)) + one_if (int_lt v (pos 4294967295))
    + one_if (int_lt v (pos 9223372036854775807)) + one_if (int_lt v (pos 18446744073709551615))

-- ---- conversion

-- Both lie in one of the stretches of numbers, as many as the type has, into which the range of the type and those
-- congruent to it part the whole numbers: they are as far from what they are converted to.
abbrev pub in_one_stretch : IntType → ℤ → ℤ → Bool
in_one_stretch t lo hi = int_eq (lo -ℤ wrapped t lo) (hi -ℤ wrapped t hi)

-- the ends of what the numbers from lo to hi are converted to
abbrev pub wrapped_low : IntType → ℤ → ℤ → ℤ
wrapped_low t lo hi = if in_one_stretch t lo hi then wrapped t lo else least_of t

abbrev pub wrapped_high : IntType → ℤ → ℤ → ℤ
wrapped_high t lo hi = if in_one_stretch t lo hi then wrapped t hi else greatest_of t

-- ---- comparisons

-- an end without a number that is left out
abbrev pub low_apart : ℤ → ℤ → ℤ
low_apart l v = if int_eq l v then l +ℤ pos 1 else l

abbrev pub high_apart : ℤ → ℤ → ℤ
high_apart h v = if int_eq h v then h -ℤ pos 1 else h
