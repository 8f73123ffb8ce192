use Rattle.std.proofs.Common.{sym, ap, ◌∙◌}
use Rattle.ep_cells.specs.Cells.{touches}
use Rattle.ep_state_rows.proofs.Walking.{joins_is, others_there, one_joined}
use Rattle.ep_state_rows.proofs.facing.push_in_row.Goals as goal

pub returns-clause-others : goal.returns-clause-others
returns-clause-others g c = λ h.
    others_there g.N.Num.ops c.args.model c.args.cells.now c.args.q c.args.place.now c.args.x.now
    (joins_is g.N.Num.ops c.args.model c.args.cells.now c.args.at c.args.start c.args.q c.args.x.now
    c.args.out.now.items c.push_joined.new.out.items c.requires (c.in_ok-is_there.ensures h)).stands

pub returns-clause-joined : goal.returns-clause-joined
returns-clause-joined g c = λ h.
    one_joined g.N.Num.ops c.args.model c.args.cells.now c.args.q c.args.place.now c.args.x.now
    c.args.out.now.items c.push_joined.new.out.items
    (ap (touches c.args.place.now) (sym c.place_of.ensures) ∙ sym c.touches.ensures ∙ c.if-not-touches.false)
    (joins_is g.N.Num.ops c.args.model c.args.cells.now c.args.at c.args.start c.args.q c.args.x.now
    c.args.out.now.items c.push_joined.new.out.items c.requires (c.in_ok-is_there.ensures h)).joined
