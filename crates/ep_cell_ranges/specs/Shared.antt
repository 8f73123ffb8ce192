-- Cells of both memories (this project's rule).
use Rattle.std.specs.Prelude.{ℕ, Bool, false, ◌&&◌, Option, Some, None}
use Rattle.ep_int.specs.declared.types.Scalar.{Scalar}
use Rattle.ep_bitslice.specs.declared.cell.Side.TheVariants.{Shared}
use Rattle.ep_cells.specs.declared.cell.Cell.{Cell}
use Rattle.ep_cells.specs.Cells.{is_same_side}
use Rattle.ep_cells.specs.States.{Known}
use Rattle.ep_reads.specs.Read.{is_exact}

-- a Shared cell has the whole scalar
abbrev pub is_shared_cell : {N : Type 0} → Known N → Scalar → (offset : ℕ) → Option (Cell N) → Bool
is_shared_cell k w q None = false
is_shared_cell k w q (Some x) = is_exact k.model w q x && is_same_side x.side Shared
