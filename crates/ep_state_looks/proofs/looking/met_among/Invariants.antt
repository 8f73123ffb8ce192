use Rattle.std.proofs.Common.{◌≡◌, ◌++◌, map, drop}
use Rattle.std.specs.List.{filter}
use Rattle.ep_state_looks.specs.Looks.{is_met}
use Rattle.ep_state_looks.proofs.looking.met_among.Given as goal

abbrev pub invariant-loop-x : goal.invariant-loop-x
invariant-loop-x g l =
    l.out.items ++ filter (is_met l.model l.p) (map (λ r. r.now) (drop l.x-index l.cells))
    ≡ filter (is_met l.model l.p) (map (λ r. r.now) l.cells)
