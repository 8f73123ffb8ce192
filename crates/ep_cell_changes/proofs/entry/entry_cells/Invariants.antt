use Rattle.std.proofs.Common.{◌≡◌, ◌-◌, ◌++◌, drop}
use Rattle.ep_cells.specs.Kill.{cells_from, AreLeavesIn}
use Rattle.ep_cell_changes.proofs.entry.entry_cells.Given as goal

-- with the leaves that are left it is all
abbrev pub invariant-loop-l : goal.invariant-loop-l
invariant-loop-l g l = record {
  rest : l.out.items ++ cells_from l.model l.side l.block (drop l.l-index l.leaves) l.at (l.size - l.at) ≡ cells_from
      l.model l.side l.block l.leaves 0 l.size;
  leaves : AreLeavesIn l.model l.at l.size (drop l.l-index l.leaves);
}
