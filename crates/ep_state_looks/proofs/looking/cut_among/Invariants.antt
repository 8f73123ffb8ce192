use Rattle.std.proofs.Common.{◌≡◌, ◌++◌, map, drop}
use Rattle.ep_reads.specs.Split.{cut_cells}
use Rattle.ep_state_looks.proofs.looking.cut_among.Given as goal

abbrev pub invariant-loop-c : goal.invariant-loop-c
invariant-loop-c g l =
    l.out.items ++ cut_cells l.model l.p (map (λ r. r.now) (drop l.c-index l.cells))
    ≡ cut_cells l.model l.p (map (λ r. r.now) l.cells)
