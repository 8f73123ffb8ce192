use Rattle.ep_state_steps.proofs.Stepwise.{dropped_cells, dropped_is}
use Rattle.ep_state_steps.proofs.lacking.drop_one.Goals as goal

pub after-requires : goal.after-requires
after-requires g c =
    dropped_cells g.N.Num.ops c.args.state.model c.args.z.now c.in_ok-copy_cell.field-0 _ c.args.state.cells
    c.model.ensures.cells c.in_ok-copy_cell.ensures c.new-none.ensures.items

pub returns : goal.returns
returns g c =
    dropped_is g.N.Num.ops c.args.state c.in_ok-after.after c.args.z.now c.in_ok-copy_cell.field-0 _
    c.in_ok-copy_cell.ensures c.new-none.ensures.items c.in_ok-after.ensures
