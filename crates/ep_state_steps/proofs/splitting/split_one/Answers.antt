use Rattle.ep_state_steps.proofs.Stepwise.{sized_at, split_cells, split_is}
use Rattle.ep_state_steps.proofs.splitting.split_one.Goals as goal

pub split_parts-requires : goal.split_parts-requires
split_parts-requires g c =
    sized_at c.args.state c.machines_of.result c.args.y c.model.ensures.cells c.requires.there c.machines_of.ensures

pub after-requires : goal.after-requires
after-requires g c =
    split_cells g.N.Num.ops c.args.state c.machines_of.result c.args.side c.args.y c.in_ok-new.new.items
    c.model.ensures.cells c.requires.there c.requires.one c.requires.has c.machines_of.ensures c.in_ok-new.ensures

pub returns : goal.returns
returns g c =
    split_is g.N.Num.ops c.args.state c.in_ok-after.after c.machines_of.result c.args.side c.args.y
    c.in_ok-new.new.items
    c.machines_of.ensures c.in_ok-new.ensures c.in_ok-after.ensures
