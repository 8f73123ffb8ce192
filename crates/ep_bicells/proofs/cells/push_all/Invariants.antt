use Rattle.std.proofs.Common.{◌≡◌, ◌++◌, map, drop}
use Rattle.ep_bicells.proofs.cells.push_all.Given as goal

abbrev pub invariant-loop-c : goal.invariant-loop-c
invariant-loop-c g l = map (λ r. r.now) l.out.items ++ drop l.c-index l.cells ≡ map (λ r. r.now) l.fn.out.items ++
    l.cells
