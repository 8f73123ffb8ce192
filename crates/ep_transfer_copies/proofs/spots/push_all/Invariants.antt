use Rattle.std.proofs.Common.{◌≡◌, ◌++◌, drop}
use Rattle.ep_transfer_copies.proofs.spots.push_all.Given as goal

abbrev pub invariant-loop-q : goal.invariant-loop-q
invariant-loop-q l = l.out.items ++ drop l.q-index l.spots ≡ l.fn.out.items ++ l.spots
