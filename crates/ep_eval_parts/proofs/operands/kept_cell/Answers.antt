use Rattle.std.proofs.Common.{sym, subst}
use Rattle.std.specs.Prelude.{IfSome}
use Rattle.ep_cells.specs.States.{IsOfSort}
use Rattle.ep_eval_parts.proofs.Widths.{kept_sorted}
use Rattle.ep_eval_parts.proofs.operands.kept_cell.Goals as goal

pub returns-clause-sort : goal.returns-clause-sort
returns-clause-sort g c =
    subst (λ o. IfSome o (λ c. IsOfSort c.what c.value)) (sym c.if_kept.ensures) (kept_sorted c.args.t c.args.c c.requires)
