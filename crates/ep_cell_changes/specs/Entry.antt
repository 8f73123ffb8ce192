-- The bytes of a block that is entered.
use Rattle.std.specs.Prelude.{ℕ, zero, suc, ◌+◌, List, [], ◌∷◌}
use Rattle.ep_int.specs.declared.types.IntType.TheVariants.{U8}
use Rattle.ep_int.specs.declared.types.Scalar.TheVariants.{Int}
use Rattle.ep_bitslice.specs.declared.cell.Side.{Side}
use Rattle.ep_cells.specs.declared.cell.Cell.{Cell}
use Rattle.ep_cells.specs.Kill.{undefined_cell}

-- an undefined cell for each byte from an offset on
abbrev pub byte_cells : {N : Type 0} → Side → (block offset bytes : ℕ) → List (Cell N)
byte_cells s b q zero = []
byte_cells s b q (suc n) = undefined_cell s b q (Int U8) ∷ byte_cells s b (q + 1) n
