-- What the tests of lists of cells tell.
use Rattle.std.specs.Prelude.{◌≡◌, ◌+◌, ◌*◌, Bool, true, ◌&&◌, ◌||◌, not, nat_eq, nat_lt, List, [], ◌∷◌}
use Rattle.ep_int.specs.declared.types.Scalar.TheVariants.{Int}
use Rattle.ep_bitslice.specs.declared.cell.CellName.{CellName}
use Rattle.ep_bitslice.specs.declared.segment.Segment.{Segment}
use Rattle.ep_bitslice.specs.declared.segment.Segment.TheVariants.{Bits, Fixed}
use Rattle.ep_bitslice.specs.Bits.{side_number}
use Rattle.ep_cells.specs.declared.cell.Cell.{Cell}
use Rattle.ep_cells.specs.Cells.{key_of, comes_before, is_same_side, is_same_scalar}
use Rattle.ep_cells.specs.States.{EachPair, IsThere}

abbrev pub IsBefore : {N : Type 0} → Cell N → Cell N → Type 0
IsBefore x y = comes_before x y ≡ true

abbrev pub AreInOrder : {N : Type 0} → List (Cell N) → Type 0
AreInOrder cs = EachPair IsBefore cs

-- whether a cell comes before that of a name
abbrev pub is_before_name : {N : Type 0} → CellName → Cell N → Bool
is_before_name n c =
    nat_lt c.block n.block || (nat_eq c.block n.block && nat_lt (key_of c) (3 * n.offset + side_number n.side))

-- whether it is the integer cell of a name, and surely defined
abbrev pub is_sure_cell : {N : Type 0} → CellName → Cell N → Bool
is_sure_cell n c =
    (is_same_side c.side n.side && nat_eq c.block n.block)
    && ((nat_eq c.offset n.offset && is_same_scalar c.what (Int n.t)) && not c.maybe)

-- the cells of all segments are there, and surely defined
abbrev pub AreThere : {N : Type 0} → List (Cell N) → List Segment → Type 0
AreThere cs [] = Unit {0}
AreThere cs (Bits n from to ∷ ss) = IsThere n cs × AreThere cs ss
AreThere cs (Fixed v w ∷ ss) = AreThere cs ss
