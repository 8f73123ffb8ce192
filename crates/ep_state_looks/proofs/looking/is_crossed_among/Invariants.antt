use Rattle.std.proofs.Common.{◌≡◌, map, drop}
use Rattle.ep_reads.specs.Unify.{is_crossed}
use Rattle.ep_state_looks.proofs.looking.is_crossed_among.Given as goal

abbrev pub invariant-loop-y : goal.invariant-loop-y
invariant-loop-y g l =
    is_crossed l.model (map (λ r. r.now) (drop l.y-index l.cells)) l.x
    ≡ is_crossed l.model (map (λ r. r.now) l.cells) l.x
