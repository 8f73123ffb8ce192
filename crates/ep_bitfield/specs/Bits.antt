-- Bit-fields as parts of the bits of their unit: C11 6.7.2.1p11. On which side the first one lies is this project's
-- rule for each byte order.
use Rattle.std.specs.Prelude.{ℕ, zero, suc, ◌+◌, ◌*◌, ◌/◌, ◌%◌, ◌^◌, ℤ, Bool, true, false, ◌&&◌, nat_le}
use Rattle.std.specs.Prelude.{List, [], ◌∷◌, ◌++◌, take, drop, reverse}
use Rattle.ep_int.specs.declared.types.IntType.{IntType}
use Rattle.ep_int.specs.declared.types.IntType.TheVariants.{I8, U8, I16, U16, I32, U32, I64, U64}
use Rattle.ep_int.specs.declared.types.Order.{Order}
use Rattle.ep_int.specs.declared.types.Order.TheVariants.{Little, Big, SwappedWords}
use Rattle.ep_int.specs.Types.{bits_of, representation, residue}
use Rattle.ep_bitfield.specs.declared.field.Field.{Field}

-- so many bits of a number, each 0 or 1, the lowest first
abbrev pub lowest_bits : (count : ℕ) → ℕ → List ℕ
lowest_bits zero n = []
lowest_bits (suc k) n = n % 2 ∷ lowest_bits k (n / 2)

-- the number that has these bits
abbrev pub number_with : List ℕ → ℕ
number_with [] = 0
number_with (b ∷ bs) = b + 2 * number_with bs

-- Bits that stand lowest first, in the order in which a machine uses them: the highest first on big. Done twice it
-- leads back.
abbrev pub in_order : Order → List ℕ → List ℕ
in_order Little bs = bs
in_order Big bs = reverse bs
in_order SwappedWords bs = bs

-- the bits of a unit of this value
abbrev pub unit_bits : Order → IntType → ℤ → List ℕ
unit_bits o t v = in_order o (lowest_bits (bits_of t) (representation t v))

-- the number of a field in a unit of this value
abbrev pub number_in_field : Order → Field → ℤ → ℕ
number_in_field o f v = number_with (in_order o (take f.width (drop f.used (unit_bits o f.t v))))

-- the bits of a field that is to have this value: it is taken modulo 2 to the power of the width
abbrev pub new_bits : Order → (width : ℕ) → ℤ → List ℕ
new_bits o w x = in_order o (lowest_bits w (residue (2 ^ w) x))

-- bits of which a part is replaced
abbrev pub with_part : (used width : ℕ) → (new old : List ℕ) → List ℕ
with_part u w new old = take u old ++ (new ++ drop (u + w) old)

-- the unit in which a field has this value, and all other bits are as before
abbrev pub unit_with : Order → Field → (unit value : ℤ) → ℕ
unit_with o f v x = number_with (in_order o (with_part f.used f.width (new_bits o f.width x) (unit_bits o f.t v)))

-- ---- which fields there are

-- the types of units
abbrev pub is_unit_type : IntType → Bool
is_unit_type I8 = false
is_unit_type U8 = true
is_unit_type I16 = false
is_unit_type U16 = true
is_unit_type I32 = false
is_unit_type U32 = true
is_unit_type I64 = false
is_unit_type U64 = false

-- a field of at least one bit, that its unit has room for
abbrev pub is_field : Field → Bool
is_field f = is_unit_type f.t && (nat_le 1 f.width && nat_le (f.used + f.width) (bits_of f.t))
