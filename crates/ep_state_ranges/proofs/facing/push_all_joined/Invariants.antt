use Rattle.std.proofs.Common.{◌≡◌, ◌++◌, map, drop}
use Rattle.ep_cells.specs.Cells.{each_becomes}
use Rattle.ep_state_ranges.specs.InRow.{joined_in}
use Rattle.ep_state_ranges.proofs.facing.push_all_joined.Given as goal

abbrev pub invariant-loop-x : goal.invariant-loop-x
invariant-loop-x g l =
    l.out.items ++ each_becomes (joined_in g.N.Num.ops l.model l.c l.p) (map (λ r. r.now) (drop l.x-index l.cells))
    ≡ l.fn.out.items ++ each_becomes (joined_in g.N.Num.ops l.model l.c l.p) (map (λ r. r.now) l.cells)
