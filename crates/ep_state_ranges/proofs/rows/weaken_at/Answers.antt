use Rattle.std.proofs.Common.{◌∙◌, ap, map}
use Rattle.ep_cells.specs.Cells.{place_of}
use Rattle.ep_cells.specs.Forms.{form_after}
use Rattle.ep_cells.specs.Weaken.{fate_by_weak_write}
use Rattle.ep_state_ranges.proofs.rows.weaken_at.Goals as goal

pub returns-clause-forms : goal.returns-clause-forms
returns-clause-forms g c =
    c.in_ok-forms.ensures
    ∙ ap (λ z. map (form_after (fate_by_weak_write z)) c.args.now.forms.items)
    (c.place_of-place.ensures
    ∙ ap (λ z. place_of z c.in_ok-y.y) c.model.ensures.value
    ∙ ap (place_of c.args.now.state.model) c.in_ok-y.ensures)
