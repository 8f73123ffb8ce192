use Rattle.std.proofs.Common.{◌↔◌, drop}
use Rattle.ep_cell_changes.specs.Tests.{AreThere}
use Rattle.ep_cell_changes.proofs.check.are_there.Given as goal

abbrev pub invariant-loop-s : goal.invariant-loop-s
invariant-loop-s g l = AreThere l.cells (drop l.s-index l.segments) ↔ AreThere l.cells l.segments
