use Rattle.std.proofs.Common.{◌∙◌, ap, map}
use Rattle.ep_cells.specs.Cells.{place_of}
use Rattle.ep_cells.specs.Both.{cell_like}
use Rattle.ep_state_looks.proofs.Windows.{like_about}
use Rattle.ep_state_looks.proofs.looking.like.Goals as goal

pub returns : goal.returns
returns g c =
    c.in_ok-y.ensures
    ∙ c.like_among.ensures
    ∙ ap (λ l. cell_like c.args.x.now (map (λ r. r.now) l)) c.deref.ensures.value
    ∙ like_about c.args.state.now.model c.place_of-place.result c.args.x.now c.args.state.now.cells _
    (c.place_of-place.ensures ∙ ap (λ d. place_of d c.args.x.now) c.model.ensures.value) c.in_ok-about.ensures
