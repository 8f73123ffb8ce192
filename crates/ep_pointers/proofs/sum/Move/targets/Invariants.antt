use Rattle.std.proofs.Common.{◌≡◌, drop, ◌++◌}
use Rattle.ep_pointers.specs.Sum.{moved_targets}
use Rattle.ep_pointers.proofs.sum.Move.targets.Given as goal

-- with what is left to do it is all
abbrev pub invariant-loop-t : goal.invariant-loop-t
invariant-loop-t g l = l.moved.items ++ moved_targets g.N.Num.ops l.self l.sizes (drop l.t-index l.targets) ≡
    moved_targets g.N.Num.ops l.self l.sizes l.targets
