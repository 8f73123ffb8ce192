use Rattle.ep_state_steps.proofs.Stepwise.{sized_at, crossed_cells, crossed_is}
use Rattle.ep_state_steps.proofs.crossing.cross.Goals as goal

pub crossed_parts-requires : goal.crossed_parts-requires
crossed_parts-requires g c =
    sized_at c.args.state c.machines_of.result c.args.y c.model.ensures.cells c.requires c.machines_of.ensures

pub after-requires : goal.after-requires
after-requires g c =
    crossed_cells g.N.Num.ops g.met.N.Num.laws c.args.state c.machines_of.result c.args.y c.in_ok-new.new.items
    c.model.ensures.cells c.requires c.machines_of.ensures c.in_ok-new.ensures

pub returns : goal.returns
returns g c =
    crossed_is g.N.Num.ops c.args.state c.in_ok-after.after c.machines_of.result c.args.y c.in_ok-new.new.items
    c.machines_of.ensures c.in_ok-new.ensures c.in_ok-after.ensures
