-- What a form says of a number, bit by bit, the lowest first. Forms are this project's own notion; a cell's bits are
-- those of two's complement (C11 6.2.6.2).
use Rattle.std.specs.Prelude.{◌≡◌, ℕ, ◌+◌, ◌-◌, ◌*◌, ◌/◌, ◌%◌, ◌^◌, ℤ, Bool, true, false, ◌&&◌, ◌||◌, not, nat_eq}
use Rattle.std.specs.Prelude.{if◌then◌else◌, List, [], ◌∷◌, ◌++◌, map, length, take, drop, replicate}
use Rattle.std.specs.List.{list_any}
use Rattle.ep_int.specs.declared.types.IntType.{IntType}
use Rattle.ep_int.specs.declared.types.IntType.TheVariants.{I8, U8, I16, U16, I32, U32, I64, U64}
use Rattle.ep_int.specs.Types.{residue}
use Rattle.ep_bitslice.specs.declared.cell.Side.{Side}
use Rattle.ep_bitslice.specs.declared.cell.Side.TheVariants.{Left, Right, Shared}
use Rattle.ep_bitslice.specs.declared.cell.CellName.{CellName}

-- ---- bits

-- a bit: one that is known, or bit k of a cell's number
pub data Bit : Type 0 where
  fixed : Bool → Bit
  cell_bit : CellName → ℕ → Bit

-- the numbers that cells hold
abbrev pub Numbers : Type 0
Numbers = CellName → ℤ

-- bit k of a whole number in two's complement, of however many bits
abbrev pub bit_of : ℤ → ℕ → ℕ
bit_of v k = residue (2 ^ (k + 1)) v / 2 ^ k

-- a bit as a number
abbrev pub digit : Numbers → Bit → ℕ
digit n (fixed b) = if b then 1 else 0
digit n (cell_bit c k) = bit_of (n c) k

-- the number that has these bits
abbrev pub number_of_bits : Numbers → List Bit → ℕ
number_of_bits n [] = 0
number_of_bits n (b ∷ bs) = digit n b + 2 * number_of_bits n bs

-- ---- what becomes of bits

abbrev pub zeros : ℕ → List Bit
zeros n = replicate n (fixed false)

-- the bits from one to before another
abbrev pub part_of : ℕ → ℕ → List Bit → List Bit
part_of from to bs = take (to - from) (drop from bs)

-- to the left, within the width
abbrev pub shifted_left : ℕ → List Bit → List Bit
shifted_left k bs = zeros k ++ take (length bs - k) bs

-- to the right, filled with zeros
abbrev pub shifted_right : ℕ → List Bit → List Bit
shifted_right k bs = drop k bs ++ zeros k

-- filled with zeros above
abbrev pub extended : ℕ → List Bit → List Bit
extended n bs = bs ++ zeros (n - length bs)

abbrev pub is_odd : ℕ → Bool
is_odd n = nat_eq (n % 2) 1

-- the bits at the ones of a number, and zeros elsewhere
abbrev pub masked : ℕ → List Bit → List Bit
masked m [] = []
masked m (b ∷ bs) = (if is_odd m then b else fixed false) ∷ masked (m / 2) bs

abbrev pub is_zero : Bit → Bool
is_zero (fixed b) = not b
is_zero (cell_bit c k) = false

-- as many bits, and at each place one of both is a zero
abbrev pub are_disjoint : List Bit → List Bit → Bool
are_disjoint [] [] = true
are_disjoint [] (b ∷ bs) = false
are_disjoint (a ∷ rest) [] = false
are_disjoint (a ∷ rest) (b ∷ bs) = (is_zero a || is_zero b) && are_disjoint rest bs

-- at each place the one of both that isn't a zero
abbrev pub either_of : List Bit → List Bit → List Bit
either_of [] bs = []
either_of (a ∷ rest) [] = []
either_of (a ∷ rest) (b ∷ bs) = (if is_zero a then b else a) ∷ either_of rest bs

-- ---- names of cells

abbrev pub side_number : Side → ℕ
side_number Left = 0
side_number Right = 1
side_number Shared = 2

abbrev pub type_number : IntType → ℕ
type_number I8 = 0
type_number U8 = 1
type_number I16 = 2
type_number U16 = 3
type_number I32 = 4
type_number U32 = 5
type_number I64 = 6
type_number U64 = 7

abbrev pub is_same_place : CellName → CellName → Bool
is_same_place c d =
    nat_eq (side_number c.side) (side_number d.side) && (nat_eq c.block d.block && nat_eq c.offset d.offset)

-- whether two names are one
abbrev pub is_same_cell : CellName → CellName → Bool
is_same_cell c d = is_same_place c d && nat_eq (type_number c.t) (type_number d.t)

-- one cell in place of another
abbrev pub renamed_cell : CellName → CellName → CellName → CellName
renamed_cell from to c = if is_same_cell c from then to else c

abbrev pub renamed_bit : CellName → CellName → Bit → Bit
renamed_bit from to (fixed b) = fixed b
renamed_bit from to (cell_bit c k) = cell_bit (renamed_cell from to c) k

abbrev pub renamed : CellName → CellName → List Bit → List Bit
renamed from to bs = map (renamed_bit from to) bs

abbrev pub is_bit_of : CellName → Bit → Bool
is_bit_of c (fixed b) = false
is_bit_of c (cell_bit d k) = is_same_cell d c

-- whether some bit is one of the cell's
abbrev pub mentions : CellName → List Bit → Bool
mentions c bs = list_any (is_bit_of c) bs

-- the cells that bits mention hold the same numbers
abbrev pub AgreeOn : List Bit → Numbers → Numbers → Type 0
AgreeOn bs n m = (c : CellName) → mentions c bs ≡ true → n c ≡ m c
