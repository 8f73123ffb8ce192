use Rattle.std.proofs.Common.{◌≡◌, drop}
use Rattle.ep_core.specs.View.{stmts_view}
use Rattle.ep_double.specs.ByteStates.{move_all, states_in}
use Rattle.ep_double.proofs.mover.+statements.Given as goal

abbrev pub invariant-do_all-loop-s : goal.invariant-do_all-loop-s
invariant-do_all-loop-s l =
    move_all l.order (stmts_view (drop l.s-index l.body)) (states_in l.m.items)
    ≡ move_all l.order (stmts_view l.body) (states_in l.fn.m.items)
