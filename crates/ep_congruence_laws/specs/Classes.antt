-- Congruence classes of numbers, and what does not depend on an operator (Granger 1989, with this project's limits).
use Rattle.std.specs.Prelude.{ℕ, ◌-◌, ◌%◌, ◌^◌, ℤ, pos, ◌+ℤ◌, ◌-ℤ◌, Bool, ◌&&◌, ◌||◌, if◌then◌else◌, Option, Some}
use Rattle.std.specs.Prelude.{None, nat_eq, nat_le, int_le, int_lt, unsigned_abs}
use Rattle.std.specs.Int.{w128, leading_zeros, int_min, int_max}
use Rattle.ep_int.specs.declared.types.IntType.{IntType}
use Rattle.ep_int.specs.declared.types.IntType.TheVariants.{I64, U64}
use Rattle.ep_int.specs.Types.{bits_of, least_of, greatest_of, residue, wrapped}
use Rattle.ep_int.specs.Arith.{int_eq, IsOfSomeType}
use Rattle.ep_congruence_laws.specs.Multiples.{IsMultiple, is_multiple, gcd}

-- the numbers that are the remainder modulo the modulus: of the modulus 0 the remainder alone, of 1 every number
pub record Class : Type 0 where
  pub remainder : ℤ
  pub modulus : ℕ

-- the greatest modulus, 2^65 - 1
abbrev pub greatest_modulus : ℕ
greatest_modulus = 36893488147419103231

abbrev pub class : ℤ → ℕ → Class
class r m = record { remainder = r; modulus = m }

abbrev pub everything : Class
everything = class (pos 0) 1

abbrev pub one : ℤ → Class
one v = class v 0

abbrev pub is_one : Class → Bool
is_one c = nat_eq c.modulus 0

-- a number of some integer type
abbrev pub is_number : ℤ → Bool
is_number z = int_le (least_of I64) z && int_le z (greatest_of U64)

abbrev pub has : Class → ℤ → Bool
has c z = is_number z && is_multiple c.modulus (z -ℤ c.remainder)

-- the number is of some integer type and in the class
pub record Has (c : Class) (z : ℤ) : Type 0 where
  pub number : IsOfSomeType z
  pub congruent : IsMultiple c.modulus (z -ℤ c.remainder)

-- A class that a value may be: its modulus is within the limit, its remainder below a modulus that isn't 0, and it has
-- a number of some integer type, which is the remainder or that less the modulus.
abbrev pub is_class : ℤ → ℕ → Bool
is_class r m =
    if nat_eq m 0 then is_number r
    else (nat_le m greatest_modulus && (int_le (pos 0) r && int_lt r (pos m)))
    && (int_le r (greatest_of U64) || int_le (least_of I64) (r -ℤ pos m))

-- the same class with a remainder from 0 to the modulus less one
abbrev pub reduced : ℤ → ℕ → Class
reduced r m = if nat_eq m 0 then one r else class (pos (residue m r)) m

abbrev pub distance : Class → Class → ℤ
distance a b = a.remainder -ℤ b.remainder

-- inclusion of the classes
abbrev pub is_within : Class → Class → Bool
is_within a b = is_multiple b.modulus (pos a.modulus) && is_multiple b.modulus (distance a b)

abbrev pub joined_modulus : Class → Class → ℕ
joined_modulus a b = gcd (gcd a.modulus b.modulus) (unsigned_abs (distance a b))

abbrev pub join_of : Class → Class → Class
join_of a b = reduced a.remainder (joined_modulus a b)

-- a single number, or the widest range
abbrev pub range_of : Class → ℤ × ℤ
range_of c = if is_one c then (c.remainder, c.remainder) else (least_of I64, greatest_of U64)

abbrev pub rank_of : Class → ℕ
rank_of c = if is_one c then 65 else 127 - leading_zeros w128 c.modulus

-- ---- the members of a part

abbrev pub first_from : Class → ℤ → ℤ
first_from c l = l +ℤ pos (residue c.modulus (c.remainder -ℤ l))

abbrev pub last_to : Class → ℤ → ℤ
last_to c h = h -ℤ pos (residue c.modulus (h -ℤ c.remainder))

-- of a class of more than one number
abbrev pub edges_of_more : Class → ℤ → ℤ → Option (ℤ × ℤ)
edges_of_more c l h = if int_le (first_from c l) h then Some (first_from c l, last_to c h) else None

abbrev pub edges_from : Class → ℤ → ℤ → Option (ℤ × ℤ)
edges_from c l h =
    if is_one c
    then (if int_le l c.remainder && int_le c.remainder h then Some (c.remainder, c.remainder) else None)
    else edges_of_more c l h

-- the least and the greatest member from lo to hi
abbrev pub edges_of : Class → ℤ → ℤ → Option (ℤ × ℤ)
edges_of c lo hi = edges_from c (int_max lo (least_of I64)) (int_min hi (greatest_of U64))

-- itself, or a single number where one member is there
abbrev pub cut_at : Class → Option (ℤ × ℤ) → Option Class
cut_at c None = None
cut_at c (Some e) = Some (if int_eq e.0 e.1 then one e.0 else c)

abbrev pub cut_of : Class → ℤ → ℤ → Option Class
cut_of c lo hi = cut_at c (edges_of c lo hi)

-- ---- conversion, comparison

abbrev pub conversion_of : Class → IntType → Class
conversion_of c t =
    if is_one c then one (wrapped t c.remainder)
    else reduced c.remainder (gcd c.modulus (2 ^ bits_of t))

-- the operand of the greater modulus, a single number before all others
abbrev pub meeting : Class → Class → Class
meeting a b = if is_one a then a else if is_one b then b else if nat_le b.modulus a.modulus then a else b

-- none where the remainders differ modulo the greatest common divisor of the moduli
abbrev pub meet_of : Class → Class → Option Class
meet_of a b = if is_multiple (gcd a.modulus b.modulus) (distance a b) then Some (meeting a b) else None

-- ---- strides

abbrev pub has_stride : Class → ℕ → ℕ → Bool
has_stride c r s = nat_eq (c.modulus % s) 0 && nat_eq (residue s c.remainder) r
