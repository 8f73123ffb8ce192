use Rattle.std.proofs.Common.{sym, subst}
use Rattle.ep_transfer_places.specs.Room.{BothHaveRoom, view as shown_places}
use Rattle.ep_transfer_places.proofs.Moving.{moved_both}
use Rattle.ep_transfer_writes.proofs.runs.write_byte.Goals as goal

pub write-requires-clause-room : goal.write-requires-clause-room
write-requires-clause-room g c =
    subst (BothHaveRoom 1) (sym c.in_ok-moved.ensures)
    (moved_both c.args.at 1 (shown_places c.args.places.now) c.requires.room)
