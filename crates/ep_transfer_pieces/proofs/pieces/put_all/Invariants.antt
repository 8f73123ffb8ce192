use Rattle.std.proofs.Common.{◌≡◌, ℕ}
use Rattle.std.specs.Vec.Iter.{into_iter_items}
use Rattle.ep_transfer_places.specs.Room.{view}
use Rattle.ep_transfer_pieces.specs.Puts.{after_puts, FitPuts}
use Rattle.ep_transfer_pieces.specs.Rows.{reached, IsReady}
use Rattle.ep_transfer_pieces.proofs.pieces.put_all.Given as goal

abbrev pub invariant-loop-p : goal.invariant-loop-p
invariant-loop-p g l = record {
  value : after_puts g.N.Num.ops l.joint (view l.to) (into_iter_items l.p-iterator) (reached g.N.Num.ops l.now)
      ≡ after_puts g.N.Num.ops l.joint (view l.to) l.fn.puts.items l.fn.state;
  model : l.now.state.model ≡ l.fn.state.model;
  ready : IsReady l.now;
  fits : (n : ℕ) → FitPuts l.fn.state.model n l.fn.puts.items → FitPuts l.fn.state.model n (into_iter_items l.p-iterator);
}
