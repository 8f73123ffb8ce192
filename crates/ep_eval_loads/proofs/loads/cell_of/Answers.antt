use Rattle.std.proofs.Common.{sym, subst, ap, ◌∙◌, get_or}
use Rattle.std.specs.Prelude.{IfSome}
use Rattle.ep_evaluation.specs.Narrowed.{sure_cell}
use Rattle.ep_eval_loads.proofs.Sorts.{IsSorted, cell_sorted}
use Rattle.ep_eval_loads.proofs.loads.cell_of.Goals as goal

pub returns-in_ok-x-in-len1-clause-sort : goal.returns-in_ok-x-in-len1-clause-sort
returns-in_ok-x-in-len1-clause-sort g c =
    subst (λ o. IfSome o IsSorted) (sym (c.in_ok-x-in-len1.ensures ∙ ap (sure_cell c.args.what (get_or c.args.spots.now 0 (0, 0))) c.cell_at.ensures))
    (cell_sorted c.args.state.now.model c.cells.result c.args.what (get_or c.args.spots.now 0 (0, 0)) c.args.state.now.cells c.model.ensures.cells)
