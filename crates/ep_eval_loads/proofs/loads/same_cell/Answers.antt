use Rattle.std.proofs.Common.{sym, subst, ap, ◌∙◌}
use Rattle.std.specs.Prelude.{IfSome}
use Rattle.ep_evaluation.specs.Narrowed.{sure_cell}
use Rattle.ep_eval_loads.proofs.Sorts.{IsSorted, cell_sorted}
use Rattle.ep_eval_loads.proofs.loads.same_cell.Goals as goal

pub returns-clause-sort : goal.returns-clause-sort
returns-clause-sort g c =
    subst (λ o. IfSome o IsSorted)
    (sym (c.in_ok-x.ensures ∙ ap (sure_cell c.args.c.now.what (c.args.c.now.block, c.args.c.now.offset)) c.cell_at.ensures))
    (cell_sorted c.args.state.now.model c.args.c.now.side c.args.c.now.what (c.args.c.now.block, c.args.c.now.offset)
    c.args.state.now.cells c.model.ensures.cells)
