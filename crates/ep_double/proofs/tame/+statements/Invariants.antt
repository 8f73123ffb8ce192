use Rattle.std.proofs.Common.{◌≡◌, drop}
use Rattle.ep_core.specs.View.{stmts_view}
use Rattle.ep_kinds.specs.Tame.{are_tame}
use Rattle.ep_double.proofs.tame.+statements.Given as goal

abbrev pub invariant-are_tame-loop-s : goal.invariant-are_tame-loop-s
invariant-are_tame-loop-s l =
    are_tame l.types (stmts_view (drop l.s-index l.body)) ≡ are_tame l.types (stmts_view l.body)
