use Rattle.ep_cell_changes.proofs.Checked.{there_is, not_there}
use Rattle.ep_cell_changes.proofs.check.is_there.Goals as goal

pub returns-then-i-cells : goal.returns-then-i-cells
returns-then-i-cells g c =
    there_is c.args.n.now c.args.cells.now c.place_of_name-i.result c.index-cells-i.result c.is_sure_cell.result c.requires
    c.place_of_name-i.ensures.within c.place_of_name-i.ensures.point c.if-i-cells.true c.index-cells-i.is
    c.is_sure_cell.ensures

pub returns-else-i-cells : goal.returns-else-i-cells
returns-else-i-cells g c =
    not_there c.args.n.now c.args.cells.now c.place_of_name-i.result c.requires c.place_of_name-i.ensures.within
    c.place_of_name-i.ensures.point c.if-i-cells.false
