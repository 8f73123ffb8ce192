use Rattle.ep_state_steps.proofs.Stepwise.{unshared_cells, unshared_is}
use Rattle.ep_state_steps.proofs.parting.part.Goals as goal

pub after-requires : goal.after-requires
after-requires g c =
    unshared_cells g.N.Num.ops c.args.state.model c.args.p _ c.args.state.cells c.model.ensures.cells
    c.new-none.ensures.items

pub returns : goal.returns
returns g c =
    unshared_is g.N.Num.ops c.args.state c.in_ok-after.after c.args.p _ c.new-none.ensures.items c.in_ok-after.ensures
