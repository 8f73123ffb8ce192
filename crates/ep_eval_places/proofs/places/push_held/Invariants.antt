use Rattle.std.proofs.Common.{◌≡◌, ◌++◌}
use Rattle.ep_eval_places.proofs.Held.{held}
use Rattle.ep_eval_places.proofs.places.push_held.Given as goal

abbrev pub invariant-loop-i : goal.invariant-loop-i
invariant-loop-i g l =
    l.out.items ≡ l.fn.out.items ++ held g.N.Num.ops g.met.N.Num.laws l.block l.offsets l.n l.i
