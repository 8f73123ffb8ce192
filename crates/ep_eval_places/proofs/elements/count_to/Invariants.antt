use Rattle.std.proofs.Common.{◌≡◌, max, drop}
use Rattle.ep_eval_places.specs.Offsets.{count_to}
use Rattle.ep_eval_places.proofs.elements.count_to.Given as goal

abbrev pub invariant-loop-t : goal.invariant-loop-t
invariant-loop-t g l = max l.count (count_to (drop l.t-index l.targets)) ≡ count_to l.targets
