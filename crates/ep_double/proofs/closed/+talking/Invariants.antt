use Rattle.std.proofs.Common.{◌≡◌, ◌+◌, ◌*◌, drop}
use Prim.Native.Nat.{max}
use Rattle.ep_core.specs.ProgramView.{program_view}
use Rattle.ep_core.specs.View.{stmts_view}
use Rattle.ep_core.specs.declared.tree.What.TheViews.{size-Stmt}
use Rattle.ep_kinds.specs.InOut.{is_talk, some_comes_to}
use Rattle.ep_double.specs.Remembered.{called}
use Rattle.ep_double.proofs.Deeper.{before, depth}
use Rattle.ep_double.proofs.closed.+talking.Given as goal

abbrev pub decreases-talks_stmt : goal.decreases-talks_stmt
decreases-talks_stmt l = before l.c.now.program.now.functions.items l.c.now.here + 4 * size-Stmt l.s.now

abbrev pub decreases-list_talks : goal.decreases-list_talks
decreases-list_talks l = before l.c.now.program.now.functions.items l.c.now.here + (4 * depth l.body.now + 1)

abbrev pub decreases-two_talk : goal.decreases-two_talk
decreases-two_talk l =
    before l.c.now.program.now.functions.items l.c.now.here + (4 * max (depth l.a.now) (depth l.b.now) + 2)

abbrev pub decreases-talks_called : goal.decreases-talks_called
decreases-talks_called l = before l.c.now.program.now.functions.items l.c.now.here + 2

abbrev pub invariant-list_talks-loop-s : goal.invariant-list_talks-loop-s
invariant-list_talks-loop-s l =
    some_comes_to is_talk (called (program_view l.c.program.now) l.c.here) (stmts_view (drop l.s-index l.body))
    ≡ some_comes_to is_talk (called (program_view l.c.program.now) l.c.here) (stmts_view l.body)
