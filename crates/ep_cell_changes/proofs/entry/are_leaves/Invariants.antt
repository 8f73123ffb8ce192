use Rattle.std.proofs.Common.{◌↔◌, drop}
use Rattle.ep_cells.specs.Kill.{AreLeavesIn}
use Rattle.ep_cell_changes.proofs.entry.are_leaves.Given as goal

abbrev pub invariant-loop-l : goal.invariant-loop-l
invariant-loop-l l = AreLeavesIn l.model l.at l.size (drop l.l-index l.leaves) ↔ AreLeavesIn l.model 0 l.size l.leaves
