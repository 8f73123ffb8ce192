use Rattle.std.proofs.Common.{◌≡◌, drop}
use Rattle.ep_cells.specs.States.{Each}
use Rattle.ep_state_steps.specs.Ones.{split_at, Has}
use Rattle.ep_state_steps.proofs.splitting.split_each.Given as goal

abbrev pub invariant-loop-x : goal.invariant-loop-x
invariant-loop-x g l =
    (split_at g.N.Num.ops l.side (drop l.x-index l.xs) l.sofar ≡ split_at g.N.Num.ops l.side l.xs l.fn.state)
    × Each (Has l.side) (drop l.x-index l.xs)
