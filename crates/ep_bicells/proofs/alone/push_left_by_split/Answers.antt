use Rattle.std.proofs.Common.{sym, ◌∙◌}
use Rattle.std.proofs.lemmas.Result.{IfOk-weaker}
use Rattle.ep_bicells.proofs.Fates.{split_part, split_same}
use Rattle.ep_bicells.proofs.alone.push_left_by_split.Goals as goal

pub returns-then-is_same_cell : goal.returns-then-is_same_cell
returns-then-is_same_cell g c =
    IfOk-weaker c.push_on.result _ _ (λ u e. split_part c.args.side c.args.x.now c.args.y.now c.side_without-to.result
    c.side_without.result _ _ c.side_without-to.ensures c.side_without.ensures
    (sym c.is_same_cell.ensures ∙ c.if-is_same_cell.true) e) c.push_on.ensures

pub returns-else-is_same_cell : goal.returns-else-is_same_cell
returns-else-is_same_cell g c =
    IfOk-weaker c.push_on-else-is_same_cell.result _ _ (λ u e. split_same c.args.side c.args.x.now c.args.y.now c.side_without-to.result
    _ _ c.side_without-to.ensures (sym c.is_same_cell.ensures ∙ c.if-is_same_cell.false) e) c.push_on-else-is_same_cell.ensures
