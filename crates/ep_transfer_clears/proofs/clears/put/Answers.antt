use Rattle.std.proofs.Common.{◌+◌, sym, subst, arith}
use Rattle.ep_int.proofs.Basics.{size_positive}
use Rattle.ep_int.specs.Types.{size_of}
use Rattle.ep_transfer_places.specs.Room.{BothHaveRoom, view as shown_places}
use Rattle.ep_transfer_places.proofs.Moving.{less_both, moved_both}
use Rattle.ep_transfer_clears.proofs.clears.put.Goals as goal

pub moved_places-requires : goal.moved_places-requires
moved_places-requires g c =
    let some = size_positive c.args.state.model c.args.what in
    less_both (c.args.at + size_of c.args.state.model c.args.what) (c.args.at + 1) (shown_places c.args.places.now)
    (omega (arith, some)) c.requires.room

pub write-requires-clause-room : goal.write-requires-clause-room
write-requires-clause-room g c =
    subst (BothHaveRoom (size_of c.args.state.model c.args.what)) (sym c.in_ok-moved.ensures)
    (moved_both c.args.at (size_of c.args.state.model c.args.what) (shown_places c.args.places.now) c.requires.room)
