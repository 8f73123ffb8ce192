use Rattle.std.proofs.Common.{◌∙◌, ap, map}
use Rattle.ep_reads.specs.Split.{cut_cells}
use Rattle.ep_state_looks.proofs.Windows.{cut_about}
use Rattle.ep_state_looks.proofs.looking.cut.Goals as goal

pub returns : goal.returns
returns g c =
    c.in_ok-cut.ensures
    ∙ ap (λ l. cut_cells c.model-model.result c.args.p.now (map (λ r. r.now) l)) c.deref.ensures.value
    ∙ ap (λ d. cut_cells d c.args.p.now (map (λ r. r.now) c.in_ok-about.about.items)) c.model-model.ensures.value
    ∙ cut_about c.args.state.now.model c.args.p.now c.args.state.now.cells _ c.in_ok-about.ensures
