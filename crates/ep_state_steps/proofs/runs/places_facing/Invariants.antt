use Rattle.std.proofs.Common.{◌≡◌, drop}
use Rattle.ep_reads.specs.Single.{facing}
use Rattle.ep_state_steps.proofs.Adjoining.{all_met}
use Rattle.ep_state_steps.proofs.runs.places_facing.Given as goal

abbrev pub invariant-loop-y : goal.invariant-loop-y
invariant-loop-y g l = all_met l.model l.out.items l.last (drop l.y-index l.ys) ≡ facing l.model l.ys
