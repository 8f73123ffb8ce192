use Rattle.std.proofs.Common.{◌≡◌, ◌++◌, take, drop}
use Rattle.ep_cell_ranges.specs.Spots.{put_spot}
use Rattle.ep_state_ranges.proofs.spots.place_for.Given as goal

abbrev pub invariant-loop-i : goal.invariant-loop-i
invariant-loop-i l = take l.i l.spots ++ put_spot l.q (drop l.i l.spots) ≡ put_spot l.q l.spots
