use Rattle.std.proofs.Common.{◌≡◌, [], ◌∷◌, drop}
use Rattle.ep_bitslice.specs.declared.cell.Side.TheVariants.{Shared}
use Rattle.ep_cells.specs.States.{Each, IsCell}
use Rattle.ep_state_rows.specs.Rows.{further, each_weakened}
use Rattle.ep_state_rows.proofs.rows.weaken_in_turn.Given as goal

abbrev pub invariant-loop-c : goal.invariant-loop-c
invariant-loop-c g l = record {
  model : l.sofar.model ≡ l.fn.state.model;
  value : each_weakened g.N.Num.ops (l.q ∷ []) (drop l.c-index l.cells) l.sofar
      ≡ each_weakened g.N.Num.ops (l.q ∷ []) l.cells l.fn.state;
  shared : Each (λ c. c.side ≡ Shared) (drop l.c-index l.cells);
  fits : Each (λ c. IsCell l.fn.state.model (further c l.q)) (drop l.c-index l.cells);
}
