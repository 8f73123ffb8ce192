use Rattle.ep_transfer_entry.proofs.Starts.{are_cells}
use Rattle.ep_transfer_entry.proofs.start.entry.Goals as goal

pub with_cells-requires : goal.with_cells-requires
with_cells-requires g c =
    are_cells g.N.Num.ops c.args.program.now c.model.result c.in_ok-cells.cells.items c.model.ensures.model
    c.in_ok-cells.ensures
