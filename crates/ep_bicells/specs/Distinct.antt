-- Cells of which no two have one side, place and type.
use Rattle.std.specs.Prelude.{◌≡◌, List}
use Rattle.ep_cells.specs.declared.cell.Cell.{Cell}
use Rattle.ep_cells.specs.Cells.{IsIn}
use Rattle.ep_cells.specs.States.{AreAlike}

abbrev pub AreDistinct : {N : Type 0} → List (Cell N) → Type 0
AreDistinct {N} cs = (x y : Cell N) → IsIn x cs → IsIn y cs → AreAlike x y → x ≡ y
