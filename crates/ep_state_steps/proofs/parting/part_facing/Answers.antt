use Rattle.std.proofs.Common.{sym, ◌∙◌, ap}
use Rattle.ep_reads.specs.Single.{facing}
use Rattle.ep_state_steps.specs.Met.{met_by_any}
use Rattle.ep_state_steps.specs.Ones.{parted_at}
use Rattle.ep_state_steps.proofs.parting.part_facing.Goals as goal

pub returns-clause-state : goal.returns-clause-state
returns-clause-state g c =
    c.in_ok-parted.ensures.state
    ∙ ap (λ l. parted_at (met_by_any c.args.state.model l) c.args.state) c.deref.ensures.value
    ∙ ap (λ P. parted_at P c.args.state)
    (ap (λ d. met_by_any d c.in_ok-places.places.items) (sym c.model-model.ensures.value) ∙ c.in_ok-places.ensures
    ∙ ap (λ d. facing d c.args.ys.now) c.model-model.ensures.value)
