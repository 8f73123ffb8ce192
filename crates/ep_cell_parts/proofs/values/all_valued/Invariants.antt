use Rattle.std.proofs.Common.{◌≡◌, ◌++◌, drop, map}
use Rattle.ep_cell_parts.specs.Valued.{valued}
use Rattle.ep_cell_parts.proofs.values.all_valued.Given as goal

abbrev pub invariant-loop-x : goal.invariant-loop-x
invariant-loop-x g l = l.out.items ++ map (valued l.c l.c.value) (drop l.x-index l.cells) ≡ map (valued l.c l.c.value) l.cells
