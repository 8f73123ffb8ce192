use Rattle.std.proofs.Common.{sym, ◌∙◌}
use Rattle.ep_state_steps.proofs.Reshares.{twins_cells, twins_reshared, none_reshared}
use Rattle.ep_state_steps.proofs.resharing.reshare_at.Goals as goal

pub after-requires : goal.after-requires
after-requires g c =
    twins_cells g.N.Num.ops c.args.state.model c.args.block c.args.offset c.args.state.cells
    c.in_ok-new-in-Some.new.items c.in-Some.twins c.model.ensures.cells (sym c.in-Some.is ∙ c.in_ok-twins_at.ensures)
    c.in_ok-new-in-Some.ensures

pub returns-in_ok-after-in-Some : goal.returns-in_ok-after-in-Some
returns-in_ok-after-in-Some g c =
    twins_reshared g.N.Num.ops c.args.state c.in_ok-after-in-Some.after c.args.block c.args.offset
    c.in_ok-new-in-Some.new.items c.in-Some.twins (sym c.in-Some.is ∙ c.in_ok-twins_at.ensures)
    c.in_ok-new-in-Some.ensures c.in_ok-after-in-Some.ensures

pub returns-in-None : goal.returns-in-None
returns-in-None g c =
    none_reshared g.N.Num.ops c.args.state c.args.block c.args.offset (sym c.in-None.is ∙ c.in_ok-twins_at.ensures)
