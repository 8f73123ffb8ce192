use Rattle.std.proofs.Common.{◌≡◌, ◌+◌, ◌++◌, drop}
use Rattle.ep_transfers.specs.Places as spec
use Rattle.ep_transfer_places.specs.Room.{HaveRoom}
use Rattle.ep_transfer_places.proofs.places.moved_spots.Given as goal

abbrev pub invariant-loop-q : goal.invariant-loop-q
invariant-loop-q l = record {
  made : l.out.items ++ spec.moved_spots l.bytes (drop l.q-index l.spots) ≡ spec.moved_spots l.bytes l.spots;
  room : HaveRoom (l.bytes + 1) (drop l.q-index l.spots);
}
