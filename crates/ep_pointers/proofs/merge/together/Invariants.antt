use Rattle.std.proofs.Common.{length, ◌-◌, ◌+◌, ◌≡◌, ◌≤◌, drop, ◌++◌}
use Rattle.ep_pointers.specs.Value.{together}
use Rattle.ep_pointers.specs.Parts.{united}
use Rattle.ep_pointers.proofs.merge.together.Given as goal

abbrev pub invariant-loop-i : goal.invariant-loop-i
invariant-loop-i g l = record {
  left : l.i ≤ length l.x;
  right : l.j ≤ length l.y;
  rest : l.targets.items ++ together (united g.N.Num.ops l.union) (drop l.i l.x) (drop l.j l.y) ≡ together
      (united g.N.Num.ops l.union) l.x l.y;
}

abbrev pub decreases-loop-i : goal.decreases-loop-i
decreases-loop-i g l = (length l.x - l.i) + (length l.y - l.j)
