use Rattle.std.proofs.Common.{◌≡◌, ◌-◌, []}
use Rattle.ep_transfers.specs.Transfers as spec
use Rattle.ep_transfer_places.specs.Room.{view as shown_places}
use Rattle.ep_transfer_clears.specs.Walk.{IsAt}
use Rattle.ep_transfer_clears.proofs.clears.clear_each.Given as goal

-- with the bytes that are left it is all
abbrev pub invariant-loop-at : goal.invariant-loop-at
invariant-loop-at g l = record {
  value : spec.cleared_from g.N.Num.ops [] l.mode 0 l.leaves l.same_to (shown_places l.places) l.at (l.bytes - l.at)
      l.after
      ≡ spec.cleared_from g.N.Num.ops [] l.mode 0 l.leaves l.same_to (shown_places l.places) 0 l.bytes l.fn.state;
  model : l.after.model ≡ l.fn.state.model;
  walk : IsAt l.fn.state.model l.bytes l.leaves l.at l.walk.begun l.walk.end;
}
