use Rattle.std.proofs.Common.{length, ◌≡◌, ◌≤◌, drop}
use Rattle.std.specs.List.{list_all}
use Rattle.ep_pointers.specs.Value.{are_within, is_offset_within}
use Rattle.ep_pointers.proofs.Passing.{tests}
use Rattle.ep_pointers.proofs.merge.are_within.Given as goal

-- what is left to look at decides
abbrev pub invariant-loop-t : goal.invariant-loop-t
invariant-loop-t g l = record {
  within : l.at ≤ length l.y;
  rest : list_all (tests (λ t o. is_offset_within g.N.Num.ops t.1 o) (drop l.at l.y)) (drop l.t-index l.x) ≡
      are_within g.N.Num.ops l.x l.y;
}
