use Rattle.std.proofs.Common.{◌++◌, ◌∙◌, ap, map}
use Rattle.ep_reads.specs.Single.{on_left_alone}
use Rattle.ep_state_steps.proofs.parting.part_at.Goals as goal

pub returns-clause-lefts : goal.returns-clause-lefts
returns-clause-lefts g c =
    c.in_ok-push_lefts.ensures
    ∙ ap (λ l. c.args.sofar.lefts.items ++ map on_left_alone l) (c.deref.ensures.value ∙ c.in_ok-zs.ensures)
