use Rattle.std.proofs.Common.{◌≡◌, ◌+◌, ◌≤◌, drop, map}
use Rattle.ep_certcheck.specs.Verdict.{first_failed_cell}
use Rattle.ep_certcheck.proofs.outside.first_failed.Given as goal

abbrev pub invariant-loop-y : goal.invariant-loop-y
invariant-loop-y g l = record {
  within : l.n ≤ l.y-index;
  same : l.n + first_failed_cell g.N.Num.ops l.state.cells (map (λ r. r.now) (drop l.y-index l.cells))
      ≡ first_failed_cell g.N.Num.ops l.state.cells (map (λ r. r.now) l.cells);
}
