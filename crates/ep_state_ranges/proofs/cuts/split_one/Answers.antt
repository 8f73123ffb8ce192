use Rattle.ep_state_steps.proofs.Stepwise.{sized_at, split_cells, split_is}
use Rattle.ep_state_ranges.proofs.cuts.split_one.Goals as goal

pub split_parts-requires : goal.split_parts-requires
split_parts-requires g c =
    sized_at c.args.now.state c.machines_of.result c.args.y c.model-model.ensures.cells c.requires.there
    c.machines_of.ensures

pub after-requires : goal.after-requires
after-requires g c =
    split_cells g.N.Num.ops c.args.now.state c.machines_of.result c.args.side c.args.y c.in_ok-parts.parts.items
    c.model-model.ensures.cells c.requires.there c.requires.one c.requires.has c.machines_of.ensures
    c.in_ok-parts.ensures

pub returns-clause-state : goal.returns-clause-state
returns-clause-state g c =
    split_is g.N.Num.ops c.args.now.state c.in_ok-state.state c.machines_of.result c.args.side c.args.y
    c.in_ok-parts.parts.items c.machines_of.ensures c.in_ok-parts.ensures c.in_ok-state.ensures
