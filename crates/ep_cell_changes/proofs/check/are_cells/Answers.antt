use Rattle.ep_cell_changes.proofs.Checked.{no_cells, cells_are}
use Rattle.ep_cell_changes.proofs.check.are_cells.Goals as goal

pub returns-then-not-are_in_order : goal.returns-then-not-are_in_order
returns-then-not-are_in_order g c =
    no_cells c.args.model c.args.cells.now c.are_in_order.result c.are_in_order.ensures c.if-not-are_in_order.true

pub returns : goal.returns
returns g c =
    cells_are c.args.model c.args.cells.now c.each_is_cell.result c.are_apart.result c.have_forms.result
    c.each_is_cell.ensures c.are_apart.ensures c.have_forms.ensures
