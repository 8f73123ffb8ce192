-- A cell gets another value (this project's rule): side, place, whether it may be undefined, its form and the forms
-- that mention it stay.
use Rattle.std.specs.Prelude.{if◌then◌else◌, map, Some}
use Rattle.ep_cells.specs.declared.cell.Cell.{Cell}
use Rattle.ep_cells.specs.declared.cell.Value.{Value}
use Rattle.ep_cells.specs.Cells.{is_same_cell}
use Rattle.ep_cells.specs.States.{Known}

abbrev pub set_in : {N : Type 0} → Cell N → Value N → Cell N → Cell N
set_in c v x = if is_same_cell x c then record x { value = Some v } else x

-- the cell c has the value v
abbrev pub with_value : {N : Type 0} → Cell N → Value N → Known N → Known N
with_value c v k = record k { cells = map (set_in c v) k.cells }
