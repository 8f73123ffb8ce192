use Rattle.std.proofs.Common.{◌≡◌}
use Rattle.std.specs.Vec.Iter.{into_iter_items}
use Rattle.ep_cells.specs.States.{Each}
use Rattle.ep_transfer_pieces.specs.Rows.{CanGo, each_written}
use Rattle.ep_transfer_pieces.proofs.rows.write_each.Given as goal

abbrev pub invariant-loop-c : goal.invariant-loop-c
invariant-loop-c g l = record {
  value : each_written g.N.Num.ops l.fn.state.model (into_iter_items l.c-iterator) l.after
      ≡ each_written g.N.Num.ops l.fn.state.model l.fn.cells.items l.fn.state;
  model : l.after.model ≡ l.fn.state.model;
  go : Each (CanGo l.fn.state.model) (into_iter_items l.c-iterator);
}
