-- A cell takes another value, where it is the one that is meant.
use Rattle.std.specs.Prelude.{if◌then◌else◌, Option}
use Rattle.ep_cells.specs.declared.cell.Cell.{Cell}
use Rattle.ep_cells.specs.declared.cell.Value.{Value}
use Rattle.ep_cells.specs.Cells.{is_same_cell}

abbrev pub valued : {N : Type 0} → Cell N → Option (Value N) → Cell N → Cell N
valued c v x = if is_same_cell x c then record x { value = v } else x
