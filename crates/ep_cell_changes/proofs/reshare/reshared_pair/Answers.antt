use Rattle.ep_cell_changes.proofs.Together.{reshared_is}
use Rattle.ep_cell_changes.proofs.reshare.reshared_pair.Goals as goal

pub returns : goal.returns
returns g c =
    reshared_is c.args.l.now c.args.r.now _ c.in_ok-reshared_cell.field-0 c.reformed.result c.change_by_reshare-change.result
    c.args.cells.now c.in_ok-out.out.items c.put.new.cells.items c.change_by_reshare-change.ensures
    c.in_ok-reshared_cell.ensures c.in_ok-out.ensures c.reformed.ensures c.in_ok-put.ensures
