use Rattle.std.proofs.Common.{◌≡◌, drop}
use Rattle.ep_core.specs.ProgramView.{program_view}
use Rattle.ep_core.specs.View.{stmts_view}
use Rattle.ep_movers.specs.Forms.{are_moving}
use Rattle.ep_double.proofs.mover.form.are_moving.Given as goal

abbrev pub invariant-loop-s : goal.invariant-loop-s
invariant-loop-s l =
    are_moving (program_view l.p) (stmts_view (drop l.s-index l.body))
    ≡ are_moving (program_view l.p) (stmts_view l.body)
