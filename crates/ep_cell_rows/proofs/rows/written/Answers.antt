use Rattle.ep_cell_rows.proofs.Order.{written_is}
use Rattle.ep_cell_rows.proofs.rows.written.Goals as goal

pub returns : goal.returns
returns g c =
    written_is c.args.model c.args.c c.reformed.result c.place_of-place.result c.args.cells.now c.in_ok-left.left.items
    c.put.new.cells.items c.place_of-place.ensures c.reformed.ensures c.in_ok-left.ensures c.in_ok-put.ensures
