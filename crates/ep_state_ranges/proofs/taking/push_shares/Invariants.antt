use Rattle.std.proofs.Common.{◌≡◌, ◌++◌, map, drop}
use Rattle.ep_cells.specs.Cells.{each_becomes}
use Rattle.ep_cells.specs.States.{Each}
use Rattle.ep_synthesis.specs.Parts.{IsSized}
use Rattle.ep_state_ranges.specs.Taken.{taken_share}
use Rattle.ep_state_ranges.proofs.taking.push_shares.Given as goal

abbrev pub invariant-loop-x : goal.invariant-loop-x
invariant-loop-x g l = record {
  taken : l.out.items
      ++ each_becomes (taken_share g.N.Num.ops l.share l.state l.p) (map (λ r. r.now) (drop l.x-index l.cells))
      ≡ l.fn.out.items ++ each_becomes (taken_share g.N.Num.ops l.share l.state l.p) (map (λ r. r.now) l.cells);
  sized : Each (IsSized l.state.model) (map (λ r. r.now) (drop l.x-index l.cells));
}
