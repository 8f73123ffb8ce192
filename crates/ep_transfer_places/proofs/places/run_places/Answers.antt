use Rattle.std.proofs.Common.{◌<◌, ◌^◌, ℕ, get_or}
use Rattle.ep_transfer_places.proofs.Rooms.{room_is, spots_room}
use Rattle.ep_transfer_places.proofs.places.run_places.Goals as goal

pub returns-clause-room : goal.returns-clause-room
returns-clause-room g c =
    let sizes : (i : ℕ) → get_or c.args.sizes.now i 0 < 2 ^ 32 = λ i. (c.type_inv.sizes i).fits in
    record {
      left = room_is c.args.n _ _ c.in_ok-left.ensures
          (spots_room g.N.Num.ops c.args.sizes.now sizes c.args.n 1 c.targets.result.now);
      right = room_is c.args.n _ _ c.in_ok-right.ensures
          (spots_room g.N.Num.ops c.args.sizes.now sizes c.args.n 1 c.targets-2.result.now);
    }
