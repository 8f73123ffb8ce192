use Rattle.std.proofs.Common.{◌≡◌, drop}
use Rattle.ep_evaluation.specs.Accesses.{offsets_range}
use Rattle.ep_eval_places.proofs.Hulls.{hull_with}
use Rattle.ep_eval_places.proofs.places.offsets_range.Given as goal

abbrev pub invariant-loop-t : goal.invariant-loop-t
invariant-loop-t g l = hull_with g.N.Num.ops l.shown (drop l.t-index l.rest) ≡ offsets_range g.N.Num.ops l.first l.rest
