use Rattle.std.proofs.Common.{◌≡◌, drop}
use Rattle.std.specs.List.{list_all}
use Rattle.ep_core.specs.View.{expr_view}
use Rattle.ep_kinds.specs.Tame.{is_tame_expr}
use Rattle.ep_double.proofs.tame.are_tame_exprs.Given as goal

abbrev pub invariant-loop-e : goal.invariant-loop-e
invariant-loop-e l =
    list_all (λ e. is_tame_expr l.types (expr_view e)) (drop l.e-index l.es)
    ≡ list_all (λ e. is_tame_expr l.types (expr_view e)) l.es
