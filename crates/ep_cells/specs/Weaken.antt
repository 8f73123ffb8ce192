-- A cell that may be written: a weak write at one of several possible places.
use Rattle.std.specs.Prelude.{Bool, true, ◌&&◌, ◌||◌, not, if◌then◌else◌, List, [], ◌∷◌, map, Some, None}
use Rattle.ep_int.specs.declared.types.Model.{Model}
use Rattle.ep_int.specs.declared.types.Scalar.{Scalar}
use Rattle.ep_int.specs.declared.types.Scalar.TheVariants.{Int, Pointer}
use Rattle.ep_bitslice.specs.declared.cell.Side.{Side}
use Rattle.ep_bitslice.specs.declared.cell.Side.TheVariants.{Left, Right, Shared}
use Rattle.ep_domain.specs.Domain.{Ops}
use Rattle.ep_cells.specs.declared.cell.Cell.{Cell}
use Rattle.ep_cells.specs.declared.cell.Value.TheVariants.{Num}
use Rattle.ep_cells.specs.declared.place.ByteRange.{ByteRange}
use Rattle.ep_cells.specs.Cells.{place_of, place_of_name, touches, share_memory, parts_of, is_same_place, each_becomes}
use Rattle.ep_cells.specs.Forms.{Fate, reformed}
use Rattle.ep_cells.specs.Both.{value_of_both}

-- An integer cell that is met and isn't the cell itself may have any value, or be undefined. A pointer cell is gone,
-- for
-- pointers have no top.
abbrev pub blurred : {N : Type 0} → Ops N → Cell N → Scalar → List (Cell N)
blurred D x (Int t) = record x { value = Some (Num (D.top t)); maybe = true; form = None } ∷ []
blurred D x Pointer = []

-- the cell itself takes the join and loses its form
abbrev pub with_join : {N : Type 0} → Ops N → Cell N → Cell N → Cell N
with_join D c x = record x { value = value_of_both D.join x.value c.value; maybe = x.maybe || c.maybe; form = None }

abbrev pub weak_cell : {N : Type 0} → Ops N → Cell N → Cell N → List (Cell N)
weak_cell D c x = if is_same_place c x then with_join D c x ∷ [] else blurred D x x.what

-- a part of a cell, where its side is written
abbrev pub weak_part : {N : Type 0} → Ops N → Cell N → Cell N → List (Cell N)
weak_part D c x = if share_memory c.side x.side then weak_cell D c x else x ∷ []

-- A Shared cell that is met is first parted, unless it is the cell itself and stays Shared.
abbrev pub left_by_weak_write : {N : Type 0} → Ops N → Model → Cell N → (shared_stays : Bool) → Cell N → List (Cell N)
left_by_weak_write D d c stays x =
    if not (touches (place_of d c) (place_of d x)) then x ∷ []
    else if stays && is_same_place c x then weak_cell D c x
    else each_becomes (weak_part D c) (parts_of x)

-- mentions of a parted cell become those of its Left part
abbrev pub first_part : Side → Side
first_part Left = Left
first_part Right = Right
first_part Shared = Left

-- and mentions of a cell that is met go
abbrev pub fate_by_weak_write : ByteRange → Fate
fate_by_weak_write p n =
    if touches p (place_of_name n)
    then (if share_memory p.side (first_part n.side) then None else Some (record n { side = first_part n.side }))
    else Some n

abbrev pub weakened : {N : Type 0} → Ops N → Model → Cell N → (shared_stays : Bool) → List (Cell N) → List (Cell N)
weakened D d c stays cs =
    map (reformed (fate_by_weak_write (place_of d c))) (each_becomes (left_by_weak_write D d c stays) cs)
