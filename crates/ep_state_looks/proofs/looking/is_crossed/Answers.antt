use Rattle.std.proofs.Common.{◌∙◌, ap, map}
use Rattle.ep_cells.specs.Cells.{place_of}
use Rattle.ep_reads.specs.Unify.{is_crossed}
use Rattle.ep_state_looks.proofs.Windows.{crossed_about}
use Rattle.ep_state_looks.proofs.looking.is_crossed.Goals as goal

pub returns : goal.returns
returns g c =
    c.is_crossed_among.ensures
    ∙ ap (λ l. is_crossed c.model-model.result (map (λ r. r.now) l) c.args.x.now) c.deref.ensures.value
    ∙ ap (λ d. is_crossed d (map (λ r. r.now) c.in_ok-about.about.items) c.args.x.now) c.model-model.ensures.value
    ∙ crossed_about c.args.state.now.model c.place_of-place.result c.args.x.now c.args.state.now.cells _
    (c.place_of-place.ensures ∙ ap (λ d. place_of d c.args.x.now) c.model-model.ensures.value) c.in_ok-about.ensures
