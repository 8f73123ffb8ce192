use Rattle.std.proofs.Common.{◌≡◌, drop}
use Rattle.ep_state_rows.specs.Rows.{FitAt}
use Rattle.ep_state_rows.proofs.Walking.{placed}
use Rattle.ep_state_rows.proofs.rows.weaken_rows.Given as goal

abbrev pub invariant-loop-q : goal.invariant-loop-q
invariant-loop-q g l = record {
  model : l.sofar.model ≡ l.fn.state.model;
  value : placed g.N.Num.ops l.cells (drop l.q-index l.spots) l.sofar ≡ placed g.N.Num.ops l.cells l.spots l.fn.state;
  fits : FitAt l.fn.state.model l.cells (drop l.q-index l.spots);
}
