-- Loops, in a program.
use Rattle.std.proofs.Common.{◌≡◌, ℕ, List}
use Rattle.ep_core.specs.declared.tree.Stmt.{Stmt}
use Rattle.ep_core.specs.Exec.{State, given, either, is_true, leaves, on, counted, bodies}
use Rattle.ep_core.specs.View.{expr_view, stmts_view}
use Rattle.ep_core.proofs.Grows.{Growing, all_grow, bodies_grow}
use Rattle.ep_core.proofs.Around.{around_is}
use Rattle.ep_machine.specs.declared.setting.Setting.{Setting}
use Rattle.ep_machine.specs.Settings.{program_in, value_on}
use Rattle.ep_frames.specs.declared.frames.Round.{Round}
use Rattle.ep_frames.specs.Stack.{list_of, again_of, turn_of}

pub list_grows : (m : Setting) (here : ℕ) (ss : List Stmt) → Growing (list_of m here ss)
list_grows m here ss =
    all_grow m.order (program_in m) counted here (bodies m.order (program_in m) counted here)
    (bodies_grow m.order (program_in m) counted here) (stmts_view ss)

pub round_tested : (m : Setting) (r : Round) (left : ℕ) (s : State)
    → again_of m r left s ≡ given (value_on m (expr_view r.test.now) s.memory) r.line s
    (λ v. either (is_true v) (turn_of m r) (leaves on) left s)
round_tested m r left s =
    around_is (value_on m (expr_view r.test.now)) r.line (list_of m r.here r.body.now) (list_of m r.here r.next.now)
    (list_grows m r.here r.body.now) (list_grows m r.here r.next.now) left s
