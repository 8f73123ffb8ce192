use Rattle.std.proofs.Common.{◌≡◌, ◌+◌, ◌*◌, drop}
use Prim.Native.Nat.{max}
use Rattle.ep_core.specs.ProgramView.{program_view}
use Rattle.ep_core.specs.View.{stmts_view}
use Rattle.ep_core.specs.declared.tree.What.TheViews.{size-Stmt}
use Rattle.ep_kinds.specs.Closed.{are_closed}
use Rattle.ep_double.specs.Remembered.{called}
use Rattle.ep_double.proofs.Deeper.{depth}
use Rattle.ep_double.proofs.closed.+closed.Given as goal

abbrev pub decreases-is_closed_stmt : goal.decreases-is_closed_stmt
decreases-is_closed_stmt l = 4 * size-Stmt l.s.now

abbrev pub decreases-list_is_closed : goal.decreases-list_is_closed
decreases-list_is_closed l = 4 * depth l.body.now + 1

abbrev pub decreases-two_are_closed : goal.decreases-two_are_closed
decreases-two_are_closed l = 4 * max (depth l.a.now) (depth l.b.now) + 2

abbrev pub decreases-arms_are_closed : goal.decreases-arms_are_closed
decreases-arms_are_closed l = 4 * max (depth l.a.now) (depth l.b.now) + 3

abbrev pub invariant-list_is_closed-loop-s : goal.invariant-list_is_closed-loop-s
invariant-list_is_closed-loop-s l =
    are_closed (called (program_view l.c.program.now) l.c.here) (stmts_view (drop l.s-index l.body))
    ≡ are_closed (called (program_view l.c.program.now) l.c.here) (stmts_view l.body)
