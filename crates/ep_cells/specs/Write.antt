-- A cell is written: what was in its place on the sides written is gone.
use Rattle.std.specs.Prelude.{if◌then◌else◌, List, [], ◌∷◌, map, Some}
use Rattle.std.specs.Option.{option_map}
use Rattle.ep_int.specs.declared.types.Model.{Model}
use Rattle.ep_cells.specs.declared.cell.Cell.{Cell}
use Rattle.ep_cells.specs.declared.place.ByteRange.{ByteRange}
use Rattle.ep_cells.specs.Cells.{place_of, place_of_name, touches, side_without, with_side, put, each_becomes}
use Rattle.ep_cells.specs.Forms.{Fate, reformed}

-- A cell in the place is gone on the sides written. A Shared one that is overwritten on one side is one of the other
-- side.
abbrev pub left_by_write : {N : Type 0} → Model → ByteRange → Cell N → List (Cell N)
left_by_write d p x = if touches p (place_of d x) then with_side x (side_without p.side x.side) else x ∷ []

-- mentions follow the cell, or go with it
abbrev pub fate_by_write : ByteRange → Fate
fate_by_write p n =
    if touches p (place_of_name n) then option_map (λ s. record n { side = s }) (side_without p.side n.side) else
    Some n

abbrev pub written : {N : Type 0} → Model → Cell N → List (Cell N) → List (Cell N)
written d c cs =
    map (reformed (fate_by_write (place_of d c))) (put c (each_becomes (left_by_write d (place_of d c)) cs))
