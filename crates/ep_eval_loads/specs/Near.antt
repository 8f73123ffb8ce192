-- Cells among those of a state.
use Rattle.std.specs.Prelude.{List}
use Rattle.ep_cells.specs.declared.cell.Cell.{Cell}
use Rattle.ep_cells.specs.Cells.{IsIn}

abbrev pub AreOf : {N : Type 0} → (some all : List (Cell N)) → Type 0
AreOf {N = N} xs cs = (x : Cell N) → IsIn x xs → IsIn x cs
