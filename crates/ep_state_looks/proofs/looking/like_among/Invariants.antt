use Rattle.std.proofs.Common.{◌≡◌, map, drop}
use Rattle.ep_cells.specs.Both.{cell_like}
use Rattle.ep_state_looks.proofs.looking.like_among.Given as goal

abbrev pub invariant-loop-c : goal.invariant-loop-c
invariant-loop-c g l =
    cell_like l.x (map (λ r. r.now) (drop l.c-index l.cells)) ≡ cell_like l.x (map (λ r. r.now) l.cells)
