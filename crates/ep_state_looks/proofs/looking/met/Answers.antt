use Rattle.std.proofs.Common.{◌∙◌, ap, map}
use Rattle.std.specs.List.{filter}
use Rattle.ep_state_looks.specs.Looks.{is_met}
use Rattle.ep_state_looks.proofs.Windows.{met_about}
use Rattle.ep_state_looks.proofs.looking.met.Goals as goal

pub returns : goal.returns
returns g c =
    met_about c.args.state.now.model c.args.p.now c.args.state.now.cells _ c.in_ok-met.met.items c.in_ok-about.ensures
    (c.in_ok-met.ensures
    ∙ ap (λ l. filter (is_met c.model-model.result c.args.p.now) (map (λ r. r.now) l)) c.deref.ensures.value
    ∙ ap (λ d. filter (is_met d c.args.p.now) (map (λ r. r.now) c.in_ok-about.about.items)) c.model-model.ensures.value)
