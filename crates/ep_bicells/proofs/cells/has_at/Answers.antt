use Rattle.std.proofs.Common.{sym, ◌∙◌}
use Rattle.ep_shared_parts.specs.Spread.{all_items}
use Rattle.ep_shared_parts.specs.Walks.{rest}
use Rattle.ep_bicells.proofs.Positions.{in_rest, has_expected}
use Rattle.ep_bicells.proofs.cells.has_at.Goals as goal

pub returns-then-is_same_cell-clause-value : goal.returns-then-is_same_cell-clause-value
returns-then-is_same_cell-clause-value g c =
    has_expected g.N.Num.ops c.in-Some.x.0.now c.args.y.now (all_items c.args.xs.now) c.is_cell_within.result c.requires.distinct (in_rest c.in-Some.x.0.now c.args.at.part c.args.at.item c.args.xs.now (rest c.in-Some.x.1 c.args.xs.now) c.in-Some.ensures.some.0) c.is_cell_within.ensures (sym c.is_same_cell.ensures ∙ c.if-is_same_cell.true)
