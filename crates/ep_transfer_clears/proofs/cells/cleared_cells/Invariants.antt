use Rattle.std.proofs.Common.{◌≡◌, ◌-◌, ◌++◌}
use Rattle.ep_transfer_clears.specs.OnePlace.{cells_from}
use Rattle.ep_transfer_clears.specs.Walk.{IsAt}
use Rattle.ep_transfer_clears.proofs.cells.cleared_cells.Given as goal

-- with the cells of the bytes that are left it is all
abbrev pub invariant-loop-offset : goal.invariant-loop-offset
invariant-loop-offset g l = record {
  all : l.out.items ++ cells_from g.N.Num.ops l.state.model l.at.0 l.at.1 l.leaves l.offset (l.bytes - l.offset)
      ≡ cells_from g.N.Num.ops l.state.model l.at.0 l.at.1 l.leaves 0 l.bytes;
  walk : IsAt l.state.model l.bytes l.leaves l.offset l.walk.begun l.walk.end;
}
