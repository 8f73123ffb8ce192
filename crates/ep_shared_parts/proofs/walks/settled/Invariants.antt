use Rattle.std.proofs.Common.{◌≡◌, ◌-◌, length}
use Rattle.ep_shared_parts.specs.Walks.{IsAt, rest}
use Rattle.ep_shared_parts.proofs.walks.settled.Given as goal

abbrev pub invariant-loop-at : goal.invariant-loop-at
invariant-loop-at g l = record {
  at : IsAt l.at l.parts;
  rest : rest l.at l.parts ≡ rest l.fn.at l.parts;
}

abbrev pub decreases-loop-at : goal.decreases-loop-at
decreases-loop-at g l = length l.parts - l.at.part
