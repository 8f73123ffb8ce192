use Rattle.std.proofs.Common.{◌≡◌, ◌++◌}
use Rattle.ep_transfer_places.proofs.RunSpots.{upto}
use Rattle.ep_transfer_places.proofs.runs.push_held.Given as goal

abbrev pub invariant-loop-i : goal.invariant-loop-i
invariant-loop-i g l =
    l.out.items ≡ l.fn.out.items ++ upto g.N.Num.ops g.met.N.Num.laws l.block l.offsets l.i
