use Rattle.ep_cell_changes.proofs.Together.{killed_is}
use Rattle.ep_cell_changes.proofs.kill.killed.Goals as goal

pub returns : goal.returns
returns g c =
    killed_is c.args.model c.args.side c.args.block c.args.leaves.now c.args.size c.args.cells.now c.in_ok-left.left.items
    c.in_ok-entry_cells.field-0.items c.put_all.new.cells.items c.in_ok-left.ensures c.in_ok-entry_cells.ensures
    c.in_ok-put_all.ensures
