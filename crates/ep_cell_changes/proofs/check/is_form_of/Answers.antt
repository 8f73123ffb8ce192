use Rattle.ep_cell_changes.proofs.Checked.{form_is}
use Rattle.ep_cell_changes.proofs.check.is_form_of.Goals as goal

pub returns : goal.returns
returns g c =
    form_is c.args.cells.now c.args.c.now c.args.f.now c.segments.result.now c.width.result c.has_width.result
    c.are_there.result c.width.ensures.form c.width.ensures.value c.segments.ensures.value c.has_width.ensures
    c.are_there.ensures
