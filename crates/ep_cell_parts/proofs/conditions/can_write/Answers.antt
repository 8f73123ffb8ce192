use Rattle.ep_cell_parts.proofs.Allowed.{can_write_is}
use Rattle.ep_cell_changes.proofs.Checked.{order_of}
use Rattle.ep_cell_parts.proofs.conditions.can_write.Goals as goal

pub has_form-requires : goal.has_form-requires
has_form-requires g c = order_of c.args.model c.args.cells.now c.requires.pairs

pub returns : goal.returns
returns g c =
    can_write_is c.args.model c.args.c.now c.args.cells.now c.place_of.result c.is_cell.result c.has_form.result c.is_some_partly_in.result c.rises.ensures c.is_cell.ensures c.has_form.ensures c.place_of.ensures c.is_some_partly_in.ensures
