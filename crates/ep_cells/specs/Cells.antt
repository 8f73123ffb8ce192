-- Cells of two memories: their sides, places, names and order (this project's rules, after Miné 2006).
use Rattle.std.specs.Prelude.{◌≡◌, ℕ, ◌+◌, ◌*◌, Bool, true, false, ◌&&◌, ◌||◌, not, nat_eq, nat_lt, nat_le}
use Rattle.std.specs.Prelude.{if◌then◌else◌, List, [], ◌∷◌, ◌++◌, Option, Some, None}
use Rattle.ep_int.specs.declared.types.Model.{Model}
use Rattle.ep_int.specs.declared.types.Scalar.{Scalar}
use Rattle.ep_int.specs.declared.types.Scalar.TheVariants.{Int, Pointer}
use Rattle.ep_int.specs.Types.{bytes_of, size_of}
use Rattle.ep_bitslice.specs.declared.cell.Side.{Side}
use Rattle.ep_bitslice.specs.declared.cell.Side.TheVariants.{Left, Right, Shared}
use Rattle.ep_bitslice.specs.declared.cell.CellName.{CellName}
use Rattle.ep_bitslice.specs.Bits.{side_number, type_number}
use Rattle.ep_cells.specs.declared.cell.Cell.{Cell}
use Rattle.ep_cells.specs.declared.place.ByteRange.{ByteRange}

-- ---- sides

-- a Shared cell is of both memories
abbrev pub on_left : Side → Bool
on_left Left = true
on_left Right = false
on_left Shared = true

abbrev pub on_right : Side → Bool
on_right Left = false
on_right Right = true
on_right Shared = true

-- whether two sides have a memory in common
abbrev pub share_memory : Side → Side → Bool
share_memory s q = (on_left s && on_left q) || (on_right s && on_right q)

-- what is left of the second side without the memories of the first
abbrev pub side_without : Side → Side → Option Side
side_without Left Left = None
side_without Left Right = Some Right
side_without Left Shared = Some Right
side_without Right Left = Some Left
side_without Right Right = None
side_without Right Shared = Some Left
side_without Shared q = None

-- ---- places

-- where a cell lies (d is the data model)
abbrev pub place_of : {N : Type 0} → Model → Cell N → ByteRange
place_of d c = record { side = c.side; block = c.block; offset = c.offset; bytes = size_of d c.what }

-- where an integer cell of a name lies
abbrev pub place_of_name : CellName → ByteRange
place_of_name n = record { side = n.side; block = n.block; offset = n.offset; bytes = bytes_of n.t }

-- whether two places have an offset in common, on whatever side
abbrev pub touches : ByteRange → ByteRange → Bool
touches p q = nat_eq p.block q.block && (nat_lt p.offset (q.offset + q.bytes) && nat_lt q.offset (p.offset + p.bytes))

-- whether they have a byte in common
abbrev pub meets : ByteRange → ByteRange → Bool
meets p q = share_memory p.side q.side && touches p q

-- whether all offsets of the second are offsets of the first
abbrev pub encloses : ByteRange → ByteRange → Bool
encloses p q = nat_le p.offset q.offset && nat_le (q.offset + q.bytes) (p.offset + p.bytes)

-- whether the second has bytes in the first, and others
abbrev pub is_partly_in : ByteRange → ByteRange → Bool
is_partly_in p q = meets p q && not (encloses p q)

-- ---- names

abbrev pub scalar_number : Scalar → ℕ
scalar_number (Int t) = type_number t
scalar_number Pointer = 8

abbrev pub is_same_scalar : Scalar → Scalar → Bool
is_same_scalar a b = nat_eq (scalar_number a) (scalar_number b)

-- x is the integer cell of this name
pub record IsNamed {N : Type 0} (n : CellName) (x : Cell N) : Type 0 where
  pub side : x.side ≡ n.side
  pub block : x.block ≡ n.block
  pub offset : x.offset ≡ n.offset
  pub what : x.what ≡ Int n.t

-- whether two cells begin at one offset and have one type
abbrev pub is_same_place : {N : Type 0} → Cell N → Cell N → Bool
is_same_place x y = nat_eq x.block y.block && (nat_eq x.offset y.offset && is_same_scalar x.what y.what)

abbrev pub is_same_side : Side → Side → Bool
is_same_side s q = nat_eq (side_number s) (side_number q)

-- the same side too
abbrev pub is_same_cell : {N : Type 0} → Cell N → Cell N → Bool
is_same_cell x y = is_same_side x.side y.side && is_same_place x y

-- ---- lists of cells

pub data IsIn {N : Type 0} (c : Cell N) : List (Cell N) → Type 0 where
  first : (cs : List (Cell N)) → IsIn c (c ∷ cs)
  later : (x : Cell N) (cs : List (Cell N)) → IsIn c cs → IsIn c (x ∷ cs)

-- the order of the cells of a block: by offset, then Left, Right, Shared
abbrev pub key_of : {N : Type 0} → Cell N → ℕ
key_of c = 3 * c.offset + side_number c.side

abbrev pub comes_before : {N : Type 0} → Cell N → Cell N → Bool
comes_before c x = nat_lt c.block x.block || (nat_eq c.block x.block && nat_lt (key_of c) (key_of x))

-- one cell more, in order
abbrev pub put : {N : Type 0} → Cell N → List (Cell N) → List (Cell N)
put c [] = c ∷ []
put c (x ∷ cs) = if comes_before c x then c ∷ x ∷ cs else x ∷ put c cs

abbrev pub put_all : {N : Type 0} → List (Cell N) → List (Cell N) → List (Cell N)
put_all [] cs = cs
put_all (c ∷ more) cs = put c (put_all more cs)

-- each cell becomes some cells
abbrev pub each_becomes : {N : Type 0} → (Cell N → List (Cell N)) → List (Cell N) → List (Cell N)
each_becomes f [] = []
each_becomes f (c ∷ cs) = f c ++ each_becomes f cs

-- the cell with what is left of its side
abbrev pub with_side : {N : Type 0} → Cell N → Option Side → List (Cell N)
with_side c None = []
with_side c (Some s) = record c { side = s } ∷ []

-- a Shared cell as a Left and a Right one
abbrev pub parts_on : {N : Type 0} → Cell N → Side → List (Cell N)
parts_on c Left = c ∷ []
parts_on c Right = c ∷ []
parts_on c Shared = record c { side = Left } ∷ record c { side = Right } ∷ []

abbrev pub parts_of : {N : Type 0} → Cell N → List (Cell N)
parts_of c = parts_on c c.side
