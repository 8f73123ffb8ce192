use Rattle.std.proofs.Common.{None, Some, sym, ap, ◌∙◌}
use Rattle.std.specs.Option.{option_map}
use Rattle.ep_certcheck.proofs.Failing.{by_where}
use Rattle.ep_certcheck.proofs.outside.has_within.Goals as goal

pub returns-in-None : goal.returns-in-None
returns-in-None g c =
    by_where g.N.Num.ops c.args.state.now.model c.args.y.now c.args.state.now.cells c.model.ensures.cells None
    (ap (λ o. option_map (λ r. r.now) o) (sym c.in-None.is) ∙ c.cell_from.ensures)

pub returns-in-Some : goal.returns-in-Some
returns-in-Some g c =
    c.is_within.ensures
    ∙ by_where g.N.Num.ops c.args.state.now.model c.args.y.now c.args.state.now.cells c.model.ensures.cells
    (Some c.in-Some.x.now) (ap (λ o. option_map (λ r. r.now) o) (sym c.in-Some.is) ∙ c.cell_from.ensures)
