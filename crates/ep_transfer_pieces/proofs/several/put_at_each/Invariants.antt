use Rattle.std.proofs.Common.{◌≡◌}
use Rattle.std.specs.Vec.Iter.{into_iter_items}
use Rattle.ep_transfer_places.specs.Room.{view}
use Rattle.ep_transfer_pieces.specs.Puts.{after_puts, FitPuts}
use Rattle.ep_transfer_pieces.specs.Several.{reached, IsReady}
use Rattle.ep_transfer_pieces.proofs.several.put_at_each.Given as goal

abbrev pub invariant-loop-p : goal.invariant-loop-p
invariant-loop-p g l = record {
  value : after_puts g.N.Num.ops l.joint (view l.to) (into_iter_items l.p-iterator) (reached g.N.Num.ops l.spots l.now)
      ≡ after_puts g.N.Num.ops l.joint (view l.to) l.fn.puts.items l.fn.state;
  model : l.now.state.model ≡ l.fn.state.model;
  ready : IsReady l.room l.spots l.now;
  fits : FitPuts l.fn.state.model l.room (into_iter_items l.p-iterator);
}
