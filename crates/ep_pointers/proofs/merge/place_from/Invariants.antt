use Rattle.std.proofs.Common.{length, ◌-◌, ◌≡◌, ◌≤◌, drop}
use Rattle.ep_pointers.specs.Parts.{from_block}
use Rattle.ep_pointers.proofs.merge.place_from.Given as goal

abbrev pub invariant-loop-at : goal.invariant-loop-at
invariant-loop-at g l = record {
  within : l.at ≤ length l.targets;
  rest : from_block l.block (drop l.at l.targets) ≡
      from_block l.block (drop l.from l.targets);
}

abbrev pub decreases-loop-at : goal.decreases-loop-at
decreases-loop-at g l = length l.targets - l.at
