use Rattle.std.proofs.Common.{◌≡◌, drop}
use Rattle.ep_cells.specs.Both.{cell_like}
use Rattle.ep_bicells.proofs.cells.like.Given as goal

abbrev pub invariant-loop-x : goal.invariant-loop-x
invariant-loop-x g l = cell_like l.y (drop l.x-index l.cells) ≡ cell_like l.y l.cells
