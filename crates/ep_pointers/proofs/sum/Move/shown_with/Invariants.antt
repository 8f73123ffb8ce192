use Rattle.std.proofs.Common.{◌≡◌, drop, fold}
use Rattle.ep_pointers.specs.Sum.{hull, exact_range}
use Rattle.ep_pointers.proofs.sum.Move.shown_with.Given as goal

-- what is left to do gives what all of it gives
abbrev pub invariant-loop-t : goal.invariant-loop-t
invariant-loop-t g l = fold (λ e u. hull e (exact_range g.N.Num.ops l.self u.1)) l.shown (drop l.t-index l.targets) ≡
    fold (λ e u. hull e (exact_range g.N.Num.ops l.self u.1)) l.fn.range l.targets
