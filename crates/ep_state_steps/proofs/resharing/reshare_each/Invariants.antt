use Rattle.std.proofs.Common.{◌≡◌, drop}
use Rattle.ep_state_steps.specs.Ones.{reshared_from}
use Rattle.ep_state_steps.proofs.resharing.reshare_each.Given as goal

abbrev pub invariant-loop-p : goal.invariant-loop-p
invariant-loop-p g l =
    reshared_from g.N.Num.ops (drop l.p-index l.places) l.sofar ≡ reshared_from g.N.Num.ops l.places l.fn.state
