use Rattle.std.proofs.Common.{length, ◌≡◌, ◌≤◌, drop, ◌||◌}
use Rattle.std.specs.List.{list_any}
use Rattle.ep_pointers.specs.Compare.{allows, opposite, in_one_block}
use Rattle.ep_pointers.proofs.Passing.{tests}
use Rattle.ep_pointers.proofs.compare.in_one_block.Given as goal

-- what is left to look at, or what was found, decides
abbrev pub invariant-loop-t : goal.invariant-loop-t
invariant-loop-t g l = record {
  within : l.at ≤ length l.y;
  yes : (l.yes || list_any (tests (λ t o. allows g.N.Num.ops l.c t.1 o) (drop l.at l.y)) (drop l.t-index l.x)) ≡
      in_one_block g.N.Num.ops l.c l.x l.y;
  no : (l.no || list_any (tests (λ t o. allows g.N.Num.ops (opposite l.c) t.1 o) (drop l.at l.y))
      (drop l.t-index l.x)) ≡ in_one_block g.N.Num.ops (opposite l.c) l.x l.y;
}
