-- Memory runs out.
use Rattle.std.proofs.Common.{Err, ◌≡◌, ◌+◌, ◌*◌, refl, sym, ap, ◌∙◌, ◌-◌, map, arith, true, false}
use Rattle.ep_flows.proofs.Basics.{capped-told}
use Rattle.std.specs.Option.{option_map}
use Rattle.ep_core.specs.Runs.{left, right}
use Rattle.ep_core.specs.View.{dest_view, expr_view, stmts_view, function_view}
use Rattle.ep_pass.specs.States.{Both, One}
use Rattle.ep_pass.specs.Pass.{agreed, either_pass, branch}
use Rattle.ep_flows.specs.View.{Told, capped, mode_of, plan_of, side_of, ways_view, flow_view}
use Rattle.ep_flows.proofs.Counting.{same_count, told_count}
use Rattle.ep_flows.proofs.Combined.{tells_at}
use Rattle.ep_walk_parts.specs.Pieces.{followed, followed_of, function, last_of, loop_of, o, row, turn_of}
use Rattle.ep_walk_parts.proofs.Arms.{call_left, call_stops, scope_stops, calls_some}
use Rattle.ep_walk_parts.proofs.Stopping.{apart_four, apart_none, apart_one, apart_three, apart_two, begun_stop}
use Rattle.ep_walk_parts.proofs.Stopping.{begun_stops_at, body_stops, count_broken, count_continued, count_on}
use Rattle.ep_walk_parts.proofs.Stopping.{count_returned, entered_stop, err_passes, first_way, four_stop_one}
use Rattle.ep_walk_parts.proofs.Stopping.{four_stop_three, four_stop_two, heads_stop, joined_stops, last_stops}
use Rattle.ep_walk_parts.proofs.Stopping.{lone_stops, next_stops, next_way, rows_stop, still_count, tests_stop}
use Rattle.ep_walk_parts.proofs.Stopping.{turn_stops, turns_stop, turns_stop_last, two_stop}
use Rattle.ep_walk_parts.proofs.TypedParts.{callee_is, callee_less}
use Rattle.ep_statement_walk.proofs.statements.+walk.Goals as goal

same_turns : {S : Type 0} (a b : Told S) → a ≡ b → a.count ≡ b.count
same_turns {S = S} a b e = ap (λ (z : Told S). z.count) e

pub follow_one-returns-in_err-alarm-in-true-true-3 : goal.follow_one-returns-in_err-alarm-in-true-true-3
follow_one-returns-in_err-alarm-in-true-true-3 g t c =
    err_passes _ c.from_residual.result _ _ _ c.from_residual.ensures.1
    (same_count _ _ _ c.alarm.ensures.count)

pub follow_truths-returns-in_err-next : goal.follow_truths-returns-in_err-next
follow_truths-returns-in_err-next g t c =
    err_passes _ c.from_residual.result _ _ _ c.from_residual.ensures.1
    (joined_stops (o g.K.AbstractStates.ops (plan_of c.args.c.now)) c.args.before (branch c.args.known
    (followed g.K.AbstractStates.ops (plan_of c.args.c.now) c.args.here (followed_of c.args.follow)
    (mode_of c.args.mode) c.args.on_left c.args.on_right)) _ _ c.in_err-next.ensures)

pub pass_apart-returns-in_err-on : goal.pass_apart-returns-in_err-on
pass_apart-returns-in_err-on g t c =
    err_passes _ c.from_residual.result _ _ _ c.from_residual.ensures.1
    (apart_none (o g.K.AbstractStates.ops (plan_of c.args.c.now)) c.args.line (row g.K.AbstractStates.ops
    (plan_of c.args.c.now) c.args.here (stmts_view c.args.first.now) (One left) c.args.known)
    (row g.K.AbstractStates.ops (plan_of c.args.c.now) c.args.here (stmts_view c.args.second.now)
    (One right)) _ _ c.in_err-on.ensures)

pub pass_apart-returns-in_err-flow : goal.pass_apart-returns-in_err-flow
pass_apart-returns-in_err-flow g t c =
    err_passes _ c.from_residual-in_err-flow.result _ _ _ c.from_residual-in_err-flow.ensures.1
    (apart_one (o g.K.AbstractStates.ops (plan_of c.args.c.now)) c.args.line (row g.K.AbstractStates.ops
    (plan_of c.args.c.now) c.args.here (stmts_view c.args.first.now) (One left) c.args.known)
    (row g.K.AbstractStates.ops (plan_of c.args.c.now) c.args.here (stmts_view c.args.second.now)
    (One right)) c.in_ok-on.field-0 c.args.log.now _ c.in_ok-on.ensures _ (count_on (o g.K.AbstractStates.ops
    (plan_of c.args.c.now)) c.args.line (row g.K.AbstractStates.ops (plan_of c.args.c.now) c.args.here
    (stmts_view c.args.first.now) (One left) c.args.known) (row g.K.AbstractStates.ops
    (plan_of c.args.c.now) c.args.here (stmts_view c.args.second.now)
    (One right)) c.in_ok-on.field-0 c.args.log.now _ c.in_ok-on.ensures _ c.in_err-flow.ensures))

pub pass_apart-returns-in_err-whole : goal.pass_apart-returns-in_err-whole
pass_apart-returns-in_err-whole g t c =
    err_passes _ c.from_residual-in_err-whole.result _ _ _ c.from_residual-in_err-whole.ensures.1
    (apart_one (o g.K.AbstractStates.ops (plan_of c.args.c.now)) c.args.line (row g.K.AbstractStates.ops
    (plan_of c.args.c.now) c.args.here (stmts_view c.args.first.now) (One left) c.args.known)
    (row g.K.AbstractStates.ops (plan_of c.args.c.now) c.args.here (stmts_view c.args.second.now)
    (One right)) c.in_ok-on.field-0 c.args.log.now _ c.in_ok-on.ensures _ (still_count _ _ _ _ (count_on
    (o g.K.AbstractStates.ops (plan_of c.args.c.now)) c.args.line (row g.K.AbstractStates.ops
    (plan_of c.args.c.now) c.args.here (stmts_view c.args.first.now) (One left) c.args.known)
    (row g.K.AbstractStates.ops (plan_of c.args.c.now) c.args.here (stmts_view c.args.second.now)
    (One right)) c.in_ok-on.field-0 c.args.log.now _ c.in_ok-on.ensures _
    (told_count _ _ _ c.in_ok-flow.ensures.log)) c.in_err-whole.ensures))

pub pass_apart-returns-in_err-flow-2 : goal.pass_apart-returns-in_err-flow-2
pass_apart-returns-in_err-flow-2 g t c =
    err_passes _ c.from_residual-in_err-flow-2.result _ _ _ c.from_residual-in_err-flow-2.ensures.1
    (apart_two (o g.K.AbstractStates.ops (plan_of c.args.c.now)) c.args.line (row g.K.AbstractStates.ops
    (plan_of c.args.c.now) c.args.here (stmts_view c.args.first.now) (One left) c.args.known)
    (row g.K.AbstractStates.ops (plan_of c.args.c.now) c.args.here (stmts_view c.args.second.now)
    (One right)) c.in_ok-on.field-0 c.args.log.now _ c.in_ok-on.ensures _ (count_broken (o g.K.AbstractStates.ops
    (plan_of c.args.c.now)) c.args.line (row g.K.AbstractStates.ops (plan_of c.args.c.now) c.args.here
    (stmts_view c.args.first.now) (One left) c.args.known) (row g.K.AbstractStates.ops
    (plan_of c.args.c.now) c.args.here (stmts_view c.args.second.now)
    (One right)) c.in_ok-on.field-0 c.args.log.now _ c.in_ok-on.ensures _ _ (still_count _ _ _ _ (count_on
    (o g.K.AbstractStates.ops (plan_of c.args.c.now)) c.args.line (row g.K.AbstractStates.ops
    (plan_of c.args.c.now) c.args.here (stmts_view c.args.first.now) (One left) c.args.known)
    (row g.K.AbstractStates.ops (plan_of c.args.c.now) c.args.here (stmts_view c.args.second.now)
    (One right)) c.in_ok-on.field-0 c.args.log.now _ c.in_ok-on.ensures _
    (told_count _ _ _ c.in_ok-flow.ensures.log))
    (told_count _ _ _ c.in_ok-whole.ensures.log)) c.in_err-flow-2.ensures))

pub pass_apart-returns-in_err-flow-3 : goal.pass_apart-returns-in_err-flow-3
pass_apart-returns-in_err-flow-3 g t c =
    err_passes _ c.from_residual-in_err-flow-3.result _ _ _ c.from_residual-in_err-flow-3.ensures.1
    (apart_two (o g.K.AbstractStates.ops (plan_of c.args.c.now)) c.args.line (row g.K.AbstractStates.ops
    (plan_of c.args.c.now) c.args.here (stmts_view c.args.first.now) (One left) c.args.known)
    (row g.K.AbstractStates.ops (plan_of c.args.c.now) c.args.here (stmts_view c.args.second.now)
    (One right)) c.in_ok-on.field-0 c.args.log.now _ c.in_ok-on.ensures _ (still_count _ _ _ _ (count_broken
    (o g.K.AbstractStates.ops (plan_of c.args.c.now)) c.args.line (row g.K.AbstractStates.ops
    (plan_of c.args.c.now) c.args.here (stmts_view c.args.first.now) (One left) c.args.known)
    (row g.K.AbstractStates.ops (plan_of c.args.c.now) c.args.here (stmts_view c.args.second.now)
    (One right)) c.in_ok-on.field-0 c.args.log.now _ c.in_ok-on.ensures _ _ (still_count _ _ _ _ (count_on
    (o g.K.AbstractStates.ops (plan_of c.args.c.now)) c.args.line (row g.K.AbstractStates.ops
    (plan_of c.args.c.now) c.args.here (stmts_view c.args.first.now) (One left) c.args.known)
    (row g.K.AbstractStates.ops (plan_of c.args.c.now) c.args.here (stmts_view c.args.second.now)
    (One right)) c.in_ok-on.field-0 c.args.log.now _ c.in_ok-on.ensures _
    (told_count _ _ _ c.in_ok-flow.ensures.log)) (told_count _ _ _ c.in_ok-whole.ensures.log))
    (told_count _ _ _ c.in_ok-flow-2.ensures.log)) c.in_err-flow-3.ensures))

pub pass_apart-returns-in_err-whole-2 : goal.pass_apart-returns-in_err-whole-2
pass_apart-returns-in_err-whole-2 g t c =
    err_passes _ c.from_residual-in_err-whole-2.result _ _ _ c.from_residual-in_err-whole-2.ensures.1
    (apart_two (o g.K.AbstractStates.ops (plan_of c.args.c.now)) c.args.line (row g.K.AbstractStates.ops
    (plan_of c.args.c.now) c.args.here (stmts_view c.args.first.now) (One left) c.args.known)
    (row g.K.AbstractStates.ops (plan_of c.args.c.now) c.args.here (stmts_view c.args.second.now)
    (One right)) c.in_ok-on.field-0 c.args.log.now _ c.in_ok-on.ensures _ (still_count _ _ _ _ (count_broken
    (o g.K.AbstractStates.ops (plan_of c.args.c.now)) c.args.line (row g.K.AbstractStates.ops
    (plan_of c.args.c.now) c.args.here (stmts_view c.args.first.now) (One left) c.args.known)
    (row g.K.AbstractStates.ops (plan_of c.args.c.now) c.args.here (stmts_view c.args.second.now)
    (One right)) c.in_ok-on.field-0 c.args.log.now _ c.in_ok-on.ensures _ _ (still_count _ _ _ _ (count_on
    (o g.K.AbstractStates.ops (plan_of c.args.c.now)) c.args.line (row g.K.AbstractStates.ops
    (plan_of c.args.c.now) c.args.here (stmts_view c.args.first.now) (One left) c.args.known)
    (row g.K.AbstractStates.ops (plan_of c.args.c.now) c.args.here (stmts_view c.args.second.now)
    (One right)) c.in_ok-on.field-0 c.args.log.now _ c.in_ok-on.ensures _
    (told_count _ _ _ c.in_ok-flow.ensures.log)) (told_count _ _ _ c.in_ok-whole.ensures.log))
    (told_count _ _ _ c.in_ok-flow-2.ensures.log)) (told_count _ _ _ c.in_ok-flow-3.ensures.log)))

pub pass_apart-returns-in_err-flow-4 : goal.pass_apart-returns-in_err-flow-4
pass_apart-returns-in_err-flow-4 g t c =
    err_passes _ c.from_residual-in_err-flow-4.result _ _ _ c.from_residual-in_err-flow-4.ensures.1
    (apart_three (o g.K.AbstractStates.ops (plan_of c.args.c.now)) c.args.line (row g.K.AbstractStates.ops
    (plan_of c.args.c.now) c.args.here (stmts_view c.args.first.now) (One left) c.args.known)
    (row g.K.AbstractStates.ops (plan_of c.args.c.now) c.args.here (stmts_view c.args.second.now)
    (One right)) c.in_ok-on.field-0 c.args.log.now _ c.in_ok-on.ensures _ (count_continued
    (o g.K.AbstractStates.ops (plan_of c.args.c.now)) c.args.line (row g.K.AbstractStates.ops
    (plan_of c.args.c.now) c.args.here (stmts_view c.args.first.now) (One left) c.args.known)
    (row g.K.AbstractStates.ops (plan_of c.args.c.now) c.args.here (stmts_view c.args.second.now)
    (One right)) c.in_ok-on.field-0 c.args.log.now _ c.in_ok-on.ensures _ _ (still_count _ _ _ _ (count_broken
    (o g.K.AbstractStates.ops (plan_of c.args.c.now)) c.args.line (row g.K.AbstractStates.ops
    (plan_of c.args.c.now) c.args.here (stmts_view c.args.first.now) (One left) c.args.known)
    (row g.K.AbstractStates.ops (plan_of c.args.c.now) c.args.here (stmts_view c.args.second.now)
    (One right)) c.in_ok-on.field-0 c.args.log.now _ c.in_ok-on.ensures _ _ (still_count _ _ _ _ (count_on
    (o g.K.AbstractStates.ops (plan_of c.args.c.now)) c.args.line (row g.K.AbstractStates.ops
    (plan_of c.args.c.now) c.args.here (stmts_view c.args.first.now) (One left) c.args.known)
    (row g.K.AbstractStates.ops (plan_of c.args.c.now) c.args.here (stmts_view c.args.second.now)
    (One right)) c.in_ok-on.field-0 c.args.log.now _ c.in_ok-on.ensures _
    (told_count _ _ _ c.in_ok-flow.ensures.log)) (told_count _ _ _ c.in_ok-whole.ensures.log))
    (told_count _ _ _ c.in_ok-flow-2.ensures.log))
    (told_count _ _ _ c.in_ok-flow-3.ensures.log)) c.in_err-flow-4.ensures))

pub pass_apart-returns-in_err-flow-5 : goal.pass_apart-returns-in_err-flow-5
pass_apart-returns-in_err-flow-5 g t c =
    err_passes _ c.from_residual-in_err-flow-5.result _ _ _ c.from_residual-in_err-flow-5.ensures.1
    (apart_three (o g.K.AbstractStates.ops (plan_of c.args.c.now)) c.args.line (row g.K.AbstractStates.ops
    (plan_of c.args.c.now) c.args.here (stmts_view c.args.first.now) (One left) c.args.known)
    (row g.K.AbstractStates.ops (plan_of c.args.c.now) c.args.here (stmts_view c.args.second.now)
    (One right)) c.in_ok-on.field-0 c.args.log.now _ c.in_ok-on.ensures _ (still_count _ _ _ _ (count_continued
    (o g.K.AbstractStates.ops (plan_of c.args.c.now)) c.args.line (row g.K.AbstractStates.ops
    (plan_of c.args.c.now) c.args.here (stmts_view c.args.first.now) (One left) c.args.known)
    (row g.K.AbstractStates.ops (plan_of c.args.c.now) c.args.here (stmts_view c.args.second.now)
    (One right)) c.in_ok-on.field-0 c.args.log.now _ c.in_ok-on.ensures _ _ (still_count _ _ _ _ (count_broken
    (o g.K.AbstractStates.ops (plan_of c.args.c.now)) c.args.line (row g.K.AbstractStates.ops
    (plan_of c.args.c.now) c.args.here (stmts_view c.args.first.now) (One left) c.args.known)
    (row g.K.AbstractStates.ops (plan_of c.args.c.now) c.args.here (stmts_view c.args.second.now)
    (One right)) c.in_ok-on.field-0 c.args.log.now _ c.in_ok-on.ensures _ _ (still_count _ _ _ _ (count_on
    (o g.K.AbstractStates.ops (plan_of c.args.c.now)) c.args.line (row g.K.AbstractStates.ops
    (plan_of c.args.c.now) c.args.here (stmts_view c.args.first.now) (One left) c.args.known)
    (row g.K.AbstractStates.ops (plan_of c.args.c.now) c.args.here (stmts_view c.args.second.now)
    (One right)) c.in_ok-on.field-0 c.args.log.now _ c.in_ok-on.ensures _
    (told_count _ _ _ c.in_ok-flow.ensures.log)) (told_count _ _ _ c.in_ok-whole.ensures.log))
    (told_count _ _ _ c.in_ok-flow-2.ensures.log)) (told_count _ _ _ c.in_ok-flow-3.ensures.log))
    (told_count _ _ _ c.in_ok-flow-4.ensures.log)) c.in_err-flow-5.ensures))

pub pass_apart-returns-in_err-whole-3 : goal.pass_apart-returns-in_err-whole-3
pass_apart-returns-in_err-whole-3 g t c =
    err_passes _ c.from_residual-in_err-whole-3.result _ _ _ c.from_residual-in_err-whole-3.ensures.1
    (apart_three (o g.K.AbstractStates.ops (plan_of c.args.c.now)) c.args.line (row g.K.AbstractStates.ops
    (plan_of c.args.c.now) c.args.here (stmts_view c.args.first.now) (One left) c.args.known)
    (row g.K.AbstractStates.ops (plan_of c.args.c.now) c.args.here (stmts_view c.args.second.now)
    (One right)) c.in_ok-on.field-0 c.args.log.now _ c.in_ok-on.ensures _ (still_count _ _ _ _ (count_continued
    (o g.K.AbstractStates.ops (plan_of c.args.c.now)) c.args.line (row g.K.AbstractStates.ops
    (plan_of c.args.c.now) c.args.here (stmts_view c.args.first.now) (One left) c.args.known)
    (row g.K.AbstractStates.ops (plan_of c.args.c.now) c.args.here (stmts_view c.args.second.now)
    (One right)) c.in_ok-on.field-0 c.args.log.now _ c.in_ok-on.ensures _ _ (still_count _ _ _ _ (count_broken
    (o g.K.AbstractStates.ops (plan_of c.args.c.now)) c.args.line (row g.K.AbstractStates.ops
    (plan_of c.args.c.now) c.args.here (stmts_view c.args.first.now) (One left) c.args.known)
    (row g.K.AbstractStates.ops (plan_of c.args.c.now) c.args.here (stmts_view c.args.second.now)
    (One right)) c.in_ok-on.field-0 c.args.log.now _ c.in_ok-on.ensures _ _ (still_count _ _ _ _ (count_on
    (o g.K.AbstractStates.ops (plan_of c.args.c.now)) c.args.line (row g.K.AbstractStates.ops
    (plan_of c.args.c.now) c.args.here (stmts_view c.args.first.now) (One left) c.args.known)
    (row g.K.AbstractStates.ops (plan_of c.args.c.now) c.args.here (stmts_view c.args.second.now)
    (One right)) c.in_ok-on.field-0 c.args.log.now _ c.in_ok-on.ensures _
    (told_count _ _ _ c.in_ok-flow.ensures.log)) (told_count _ _ _ c.in_ok-whole.ensures.log))
    (told_count _ _ _ c.in_ok-flow-2.ensures.log)) (told_count _ _ _ c.in_ok-flow-3.ensures.log))
    (told_count _ _ _ c.in_ok-flow-4.ensures.log)) (told_count _ _ _ c.in_ok-flow-5.ensures.log)))

pub pass_apart-returns-in_err-flow-6 : goal.pass_apart-returns-in_err-flow-6
pass_apart-returns-in_err-flow-6 g t c =
    err_passes _ c.from_residual-in_err-flow-6.result _ _ _ c.from_residual-in_err-flow-6.ensures.1
    (apart_four (o g.K.AbstractStates.ops (plan_of c.args.c.now)) c.args.line (row g.K.AbstractStates.ops
    (plan_of c.args.c.now) c.args.here (stmts_view c.args.first.now) (One left) c.args.known)
    (row g.K.AbstractStates.ops (plan_of c.args.c.now) c.args.here (stmts_view c.args.second.now)
    (One right)) c.in_ok-on.field-0 c.args.log.now _ c.in_ok-on.ensures _ (count_returned
    (o g.K.AbstractStates.ops (plan_of c.args.c.now)) c.args.line (row g.K.AbstractStates.ops
    (plan_of c.args.c.now) c.args.here (stmts_view c.args.first.now) (One left) c.args.known)
    (row g.K.AbstractStates.ops (plan_of c.args.c.now) c.args.here (stmts_view c.args.second.now)
    (One right)) c.in_ok-on.field-0 c.args.log.now _ c.in_ok-on.ensures _ _ (still_count _ _ _ _ (count_continued
    (o g.K.AbstractStates.ops (plan_of c.args.c.now)) c.args.line (row g.K.AbstractStates.ops
    (plan_of c.args.c.now) c.args.here (stmts_view c.args.first.now) (One left) c.args.known)
    (row g.K.AbstractStates.ops (plan_of c.args.c.now) c.args.here (stmts_view c.args.second.now)
    (One right)) c.in_ok-on.field-0 c.args.log.now _ c.in_ok-on.ensures _ _ (still_count _ _ _ _ (count_broken
    (o g.K.AbstractStates.ops (plan_of c.args.c.now)) c.args.line (row g.K.AbstractStates.ops
    (plan_of c.args.c.now) c.args.here (stmts_view c.args.first.now) (One left) c.args.known)
    (row g.K.AbstractStates.ops (plan_of c.args.c.now) c.args.here (stmts_view c.args.second.now)
    (One right)) c.in_ok-on.field-0 c.args.log.now _ c.in_ok-on.ensures _ _ (still_count _ _ _ _ (count_on
    (o g.K.AbstractStates.ops (plan_of c.args.c.now)) c.args.line (row g.K.AbstractStates.ops
    (plan_of c.args.c.now) c.args.here (stmts_view c.args.first.now) (One left) c.args.known)
    (row g.K.AbstractStates.ops (plan_of c.args.c.now) c.args.here (stmts_view c.args.second.now)
    (One right)) c.in_ok-on.field-0 c.args.log.now _ c.in_ok-on.ensures _
    (told_count _ _ _ c.in_ok-flow.ensures.log)) (told_count _ _ _ c.in_ok-whole.ensures.log))
    (told_count _ _ _ c.in_ok-flow-2.ensures.log)) (told_count _ _ _ c.in_ok-flow-3.ensures.log))
    (told_count _ _ _ c.in_ok-flow-4.ensures.log))
    (told_count _ _ _ c.in_ok-flow-5.ensures.log)) c.in_err-flow-6.ensures))

pub pass_apart-returns-in_err-flow-7 : goal.pass_apart-returns-in_err-flow-7
pass_apart-returns-in_err-flow-7 g t c =
    err_passes _ c.from_residual-in_err-flow-7.result _ _ _ c.from_residual-in_err-flow-7.ensures.1
    (apart_four (o g.K.AbstractStates.ops (plan_of c.args.c.now)) c.args.line (row g.K.AbstractStates.ops
    (plan_of c.args.c.now) c.args.here (stmts_view c.args.first.now) (One left) c.args.known)
    (row g.K.AbstractStates.ops (plan_of c.args.c.now) c.args.here (stmts_view c.args.second.now)
    (One right)) c.in_ok-on.field-0 c.args.log.now _ c.in_ok-on.ensures _ (still_count _ _ _ _ (count_returned
    (o g.K.AbstractStates.ops (plan_of c.args.c.now)) c.args.line (row g.K.AbstractStates.ops
    (plan_of c.args.c.now) c.args.here (stmts_view c.args.first.now) (One left) c.args.known)
    (row g.K.AbstractStates.ops (plan_of c.args.c.now) c.args.here (stmts_view c.args.second.now)
    (One right)) c.in_ok-on.field-0 c.args.log.now _ c.in_ok-on.ensures _ _ (still_count _ _ _ _ (count_continued
    (o g.K.AbstractStates.ops (plan_of c.args.c.now)) c.args.line (row g.K.AbstractStates.ops
    (plan_of c.args.c.now) c.args.here (stmts_view c.args.first.now) (One left) c.args.known)
    (row g.K.AbstractStates.ops (plan_of c.args.c.now) c.args.here (stmts_view c.args.second.now)
    (One right)) c.in_ok-on.field-0 c.args.log.now _ c.in_ok-on.ensures _ _ (still_count _ _ _ _ (count_broken
    (o g.K.AbstractStates.ops (plan_of c.args.c.now)) c.args.line (row g.K.AbstractStates.ops
    (plan_of c.args.c.now) c.args.here (stmts_view c.args.first.now) (One left) c.args.known)
    (row g.K.AbstractStates.ops (plan_of c.args.c.now) c.args.here (stmts_view c.args.second.now)
    (One right)) c.in_ok-on.field-0 c.args.log.now _ c.in_ok-on.ensures _ _ (still_count _ _ _ _ (count_on
    (o g.K.AbstractStates.ops (plan_of c.args.c.now)) c.args.line (row g.K.AbstractStates.ops
    (plan_of c.args.c.now) c.args.here (stmts_view c.args.first.now) (One left) c.args.known)
    (row g.K.AbstractStates.ops (plan_of c.args.c.now) c.args.here (stmts_view c.args.second.now)
    (One right)) c.in_ok-on.field-0 c.args.log.now _ c.in_ok-on.ensures _
    (told_count _ _ _ c.in_ok-flow.ensures.log)) (told_count _ _ _ c.in_ok-whole.ensures.log))
    (told_count _ _ _ c.in_ok-flow-2.ensures.log)) (told_count _ _ _ c.in_ok-flow-3.ensures.log))
    (told_count _ _ _ c.in_ok-flow-4.ensures.log)) (told_count _ _ _ c.in_ok-flow-5.ensures.log))
    (told_count _ _ _ c.in_ok-flow-6.ensures.log)) c.in_err-flow-7.ensures))

pub pass_begun-returns-in_err-on : goal.pass_begun-returns-in_err-on
pass_begun-returns-in_err-on g t c =
    err_passes _ c.from_residual.result _ _ _ c.from_residual.ensures.1
    (begun_stops_at g.K.AbstractStates.ops (plan_of c.args.c.now) c.args.here (loop_of c.args.parts)
    (mode_of c.args.mode) c.args.count c.args.known _ _ c.in_err-on.ensures)

pub pass_body-returns-in_err-on : goal.pass_body-returns-in_err-on
pass_body-returns-in_err-on g t c =
    err_passes _ c.from_residual.result _ _ _ c.from_residual.ensures.1
    (body_stops (o g.K.AbstractStates.ops (plan_of c.args.c.now)) (row g.K.AbstractStates.ops
    (plan_of c.args.c.now) c.args.here (stmts_view c.args.parts.body.now) (mode_of c.args.mode) c.args.known)
    (row g.K.AbstractStates.ops (plan_of c.args.c.now) c.args.here (stmts_view c.args.parts.next.now)
    (mode_of c.args.mode)) c.args.log.now c.turn.new.self _ (told_count _ _ _ c.turn.ensures) c.in_err-on.ensures)

pub pass_body-returns-in_err-ended : goal.pass_body-returns-in_err-ended
pass_body-returns-in_err-ended g t c =
    err_passes _ c.from_residual-in_err-ended.result _ _ _ c.from_residual-in_err-ended.ensures.1
    (body_stops (o g.K.AbstractStates.ops (plan_of c.args.c.now)) (row g.K.AbstractStates.ops
    (plan_of c.args.c.now) c.args.here (stmts_view c.args.parts.body.now) (mode_of c.args.mode) c.args.known)
    (row g.K.AbstractStates.ops (plan_of c.args.c.now) c.args.here (stmts_view c.args.parts.next.now)
    (mode_of c.args.mode)) c.args.log.now c.turn.new.self _ (told_count _ _ _ c.turn.ensures)
    (told_count _ _ _ c.in_ok-on.ensures.log))

pub pass_body-returns-in_err-on-2 : goal.pass_body-returns-in_err-on-2
pass_body-returns-in_err-on-2 g t c =
    err_passes _ c.from_residual-in_err-on-2.result _ _ _ c.from_residual-in_err-on-2.ensures.1
    (next_stops (o g.K.AbstractStates.ops (plan_of c.args.c.now)) (row g.K.AbstractStates.ops
    (plan_of c.args.c.now) c.args.here (stmts_view c.args.parts.body.now) (mode_of c.args.mode) c.args.known)
    (row g.K.AbstractStates.ops (plan_of c.args.c.now) c.args.here (stmts_view c.args.parts.next.now)
    (mode_of c.args.mode)) c.args.log.now c.turn.new.self _ c.in_ok-on.field-0 _ c.in_ok-ended.ended
    (told_count _ _ _ c.turn.ensures) c.in_ok-on.ensures c.in_ok-ended.ensures c.in_err-on-2.ensures)

pub pass_call-returns-in_err-inner-in-Some : goal.pass_call-returns-in_err-inner-in-Some
pass_call-returns-in_err-inner-in-Some g t c =
    err_passes _ c.from_residual.result _ _ _ c.from_residual.ensures.1
    (same_count _ _ _ (same_turns _ _ c.log.view_is))

pub pass_call-returns-in_err-flow-in-Some : goal.pass_call-returns-in_err-flow-in-Some
pass_call-returns-in_err-flow-in-Some g t c =
    err_passes _ c.from_residual-in_err-flow-in-Some.result _ _ _ c.from_residual-in_err-flow-in-Some.ensures.1
    (let e = rw c.in-Some.is at c.callee.ensures in
    let f = function_view c.in-Some.f.now in
    let is = callee_is c.args.c.now.program.now c.args.k c.args.here c.in-Some.f.now (sym e) in
    let less = callee_less c.args.c.now.program.now c.args.k c.args.here c.in-Some.f.now (sym e) in
    let body = function g.K.AbstractStates.ops (plan_of c.args.c.now) c.args.k (mode_of c.args.mode) in
    calls_some g.K.AbstractStates.ops (plan_of c.args.c.now) c.args.here
    (mode_of c.args.mode) c.args.line c.args.k (map expr_view c.args.es.now)
    (option_map dest_view c.args.d.now) c.args.known f (Err
    (record {})) c.args.log.now c.pass_function.new.log is less (call_stops (o g.K.AbstractStates.ops
    (plan_of c.args.c.now)) (mode_of c.args.mode) c.args.line f (map expr_view c.args.es.now)
    (option_map dest_view c.args.d.now) body c.args.known c.args.log.now _ c.pass_function.new.log
    (tells_at _ c.args.log.now _ _
    (sym c.log.view_is) c.in_ok-inner-in-Some.ensures.faults refl refl) c.in_ok-inner-in-Some.inner
    c.in_ok-inner-in-Some.ensures.next c.in_err-flow-in-Some.ensures))

pub pass_call-returns-in_err-left-in-Some : goal.pass_call-returns-in_err-left-in-Some
pass_call-returns-in_err-left-in-Some g t c =
    err_passes _ c.from_residual-in_err-left-in-Some.result _ _ _ c.from_residual-in_err-left-in-Some.ensures.1
    (let e = rw c.in-Some.is at c.callee.ensures in
    let f = function_view c.in-Some.f.now in
    let is = callee_is c.args.c.now.program.now c.args.k c.args.here c.in-Some.f.now (sym e) in
    let less = callee_less c.args.c.now.program.now c.args.k c.args.here c.in-Some.f.now (sym e) in
    let body = function g.K.AbstractStates.ops (plan_of c.args.c.now) c.args.k (mode_of c.args.mode) in
    calls_some g.K.AbstractStates.ops (plan_of c.args.c.now) c.args.here
    (mode_of c.args.mode) c.args.line c.args.k (map expr_view c.args.es.now)
    (option_map dest_view c.args.d.now) c.args.known f (Err
    (record {})) c.args.log.now c.pass_function.new.log is less (call_left (o g.K.AbstractStates.ops
    (plan_of c.args.c.now)) (mode_of c.args.mode) c.args.line f (map expr_view c.args.es.now)
    (option_map dest_view c.args.d.now) body c.args.known c.args.log.now _ c.pass_function.new.log
    c.in_ok-flow-in-Some.flow (tells_at _ c.args.log.now _ _
    (sym c.log.view_is) c.in_ok-inner-in-Some.ensures.faults refl refl) c.in_ok-inner-in-Some.inner
    c.in_ok-inner-in-Some.ensures.next c.in_ok-flow-in-Some.ensures))

pub pass_entered-returns-in_err-alarm : goal.pass_entered-returns-in_err-alarm
pass_entered-returns-in_err-alarm g t c =
    err_passes _ c.from_residual.result _ _ _ c.from_residual.ensures.1
    (same_count _ _ _ c.alarm.ensures.count)

pub pass_four-returns-in_err-both : goal.pass_four-returns-in_err-both
pass_four-returns-in_err-both g t c =
    err_passes _ c.from_residual.result _ _ _ c.from_residual.ensures.1
    (same_count _ _ _ refl)

pub pass_four-returns-in_err-flow : goal.pass_four-returns-in_err-flow
pass_four-returns-in_err-flow g t c =
    err_passes _ c.from_residual-in_err-flow.result _ _ _ c.from_residual-in_err-flow.ensures.1
    (four_stop_one (o g.K.AbstractStates.ops (plan_of c.args.c.now)) (flow_view c.args.before)
    ((o g.K.AbstractStates.ops (plan_of c.args.c.now)).assume (expr_view c.args.test.now) true true c.args.known)
    ((o g.K.AbstractStates.ops (plan_of c.args.c.now)).assume
    (expr_view c.args.test.now) true false c.args.known) ((o g.K.AbstractStates.ops
    (plan_of c.args.c.now)).assume (expr_view c.args.test.now) false true c.args.known)
    ((o g.K.AbstractStates.ops (plan_of c.args.c.now)).assume
    (expr_view c.args.test.now) false false c.args.known) (followed g.K.AbstractStates.ops
    (plan_of c.args.c.now) c.args.here (followed_of c.args.follow) Both true true)
    (followed g.K.AbstractStates.ops (plan_of c.args.c.now) c.args.here
    (followed_of c.args.follow) Both true false) (followed g.K.AbstractStates.ops
    (plan_of c.args.c.now) c.args.here (followed_of c.args.follow) Both false true)
    (followed g.K.AbstractStates.ops (plan_of c.args.c.now) c.args.here
    (followed_of c.args.follow) Both false false) _ _ (first_way (o g.K.AbstractStates.ops (plan_of c.args.c.now))
    (flow_view c.args.before) _ ((o g.K.AbstractStates.ops (plan_of c.args.c.now)).assume
    (expr_view c.args.test.now) true true c.args.known) (followed g.K.AbstractStates.ops
    (plan_of c.args.c.now) c.args.here
    (followed_of c.args.follow) Both true true) _ _ c.in_ok-both.ensures c.in_err-flow.ensures))

pub pass_four-returns-in_err-left : goal.pass_four-returns-in_err-left
pass_four-returns-in_err-left g t c =
    err_passes _ c.from_residual-in_err-left.result _ _ _ c.from_residual-in_err-left.ensures.1
    (four_stop_one (o g.K.AbstractStates.ops (plan_of c.args.c.now)) (flow_view c.args.before)
    ((o g.K.AbstractStates.ops (plan_of c.args.c.now)).assume (expr_view c.args.test.now) true true c.args.known)
    ((o g.K.AbstractStates.ops (plan_of c.args.c.now)).assume
    (expr_view c.args.test.now) true false c.args.known) ((o g.K.AbstractStates.ops
    (plan_of c.args.c.now)).assume (expr_view c.args.test.now) false true c.args.known)
    ((o g.K.AbstractStates.ops (plan_of c.args.c.now)).assume
    (expr_view c.args.test.now) false false c.args.known) (followed g.K.AbstractStates.ops
    (plan_of c.args.c.now) c.args.here (followed_of c.args.follow) Both true true)
    (followed g.K.AbstractStates.ops (plan_of c.args.c.now) c.args.here
    (followed_of c.args.follow) Both true false) (followed g.K.AbstractStates.ops
    (plan_of c.args.c.now) c.args.here (followed_of c.args.follow) Both false true)
    (followed g.K.AbstractStates.ops (plan_of c.args.c.now) c.args.here
    (followed_of c.args.follow) Both false false) _ _ (first_way (o g.K.AbstractStates.ops (plan_of c.args.c.now))
    (flow_view c.args.before) _ ((o g.K.AbstractStates.ops (plan_of c.args.c.now)).assume
    (expr_view c.args.test.now) true true c.args.known) (followed g.K.AbstractStates.ops
    (plan_of c.args.c.now) c.args.here (followed_of c.args.follow) Both true true) _ _ c.in_ok-both.ensures
    (told_count _ _ _ c.in_ok-flow.ensures.log)))

pub pass_four-returns-in_err-flow-2 : goal.pass_four-returns-in_err-flow-2
pass_four-returns-in_err-flow-2 g t c =
    err_passes _ c.from_residual-in_err-flow-2.result _ _ _ c.from_residual-in_err-flow-2.ensures.1
    (four_stop_two (o g.K.AbstractStates.ops (plan_of c.args.c.now)) (flow_view c.args.before)
    ((o g.K.AbstractStates.ops (plan_of c.args.c.now)).assume (expr_view c.args.test.now) true true c.args.known)
    ((o g.K.AbstractStates.ops (plan_of c.args.c.now)).assume
    (expr_view c.args.test.now) true false c.args.known) ((o g.K.AbstractStates.ops
    (plan_of c.args.c.now)).assume (expr_view c.args.test.now) false true c.args.known)
    ((o g.K.AbstractStates.ops (plan_of c.args.c.now)).assume
    (expr_view c.args.test.now) false false c.args.known) (followed g.K.AbstractStates.ops
    (plan_of c.args.c.now) c.args.here (followed_of c.args.follow) Both true true)
    (followed g.K.AbstractStates.ops (plan_of c.args.c.now) c.args.here
    (followed_of c.args.follow) Both true false) (followed g.K.AbstractStates.ops
    (plan_of c.args.c.now) c.args.here (followed_of c.args.follow) Both false true)
    (followed g.K.AbstractStates.ops (plan_of c.args.c.now) c.args.here
    (followed_of c.args.follow) Both false false) _ _ (next_way (o g.K.AbstractStates.ops
    (plan_of c.args.c.now)) c.in_ok-flow.flow (either_pass (o g.K.AbstractStates.ops (plan_of c.args.c.now))
    (flow_view c.args.before) (branch ((o g.K.AbstractStates.ops (plan_of c.args.c.now)).assume
    (expr_view c.args.test.now) true true c.args.known) (followed g.K.AbstractStates.ops
    (plan_of c.args.c.now) c.args.here (followed_of c.args.follow) Both true true))) _ ((o g.K.AbstractStates.ops
    (plan_of c.args.c.now)).assume (expr_view c.args.test.now) true false c.args.known)
    (followed g.K.AbstractStates.ops (plan_of c.args.c.now) c.args.here
    (followed_of c.args.follow) Both true false) _ _ _ c.in_ok-left.ensures (first_way (o g.K.AbstractStates.ops
    (plan_of c.args.c.now)) (flow_view c.args.before) _ ((o g.K.AbstractStates.ops (plan_of c.args.c.now)).assume
    (expr_view c.args.test.now) true true c.args.known) (followed g.K.AbstractStates.ops
    (plan_of c.args.c.now) c.args.here (followed_of c.args.follow) Both true true) _ _ c.in_ok-both.ensures
    (told_count _ _ _ c.in_ok-flow.ensures.log)) c.in_err-flow-2.ensures))

pub pass_four-returns-in_err-right : goal.pass_four-returns-in_err-right
pass_four-returns-in_err-right g t c =
    err_passes _ c.from_residual-in_err-right.result _ _ _ c.from_residual-in_err-right.ensures.1
    (four_stop_two (o g.K.AbstractStates.ops (plan_of c.args.c.now)) (flow_view c.args.before)
    ((o g.K.AbstractStates.ops (plan_of c.args.c.now)).assume (expr_view c.args.test.now) true true c.args.known)
    ((o g.K.AbstractStates.ops (plan_of c.args.c.now)).assume
    (expr_view c.args.test.now) true false c.args.known) ((o g.K.AbstractStates.ops
    (plan_of c.args.c.now)).assume (expr_view c.args.test.now) false true c.args.known)
    ((o g.K.AbstractStates.ops (plan_of c.args.c.now)).assume
    (expr_view c.args.test.now) false false c.args.known) (followed g.K.AbstractStates.ops
    (plan_of c.args.c.now) c.args.here (followed_of c.args.follow) Both true true)
    (followed g.K.AbstractStates.ops (plan_of c.args.c.now) c.args.here
    (followed_of c.args.follow) Both true false) (followed g.K.AbstractStates.ops
    (plan_of c.args.c.now) c.args.here (followed_of c.args.follow) Both false true)
    (followed g.K.AbstractStates.ops (plan_of c.args.c.now) c.args.here
    (followed_of c.args.follow) Both false false) _ _ (next_way (o g.K.AbstractStates.ops
    (plan_of c.args.c.now)) c.in_ok-flow.flow (either_pass (o g.K.AbstractStates.ops (plan_of c.args.c.now))
    (flow_view c.args.before) (branch ((o g.K.AbstractStates.ops (plan_of c.args.c.now)).assume
    (expr_view c.args.test.now) true true c.args.known) (followed g.K.AbstractStates.ops
    (plan_of c.args.c.now) c.args.here (followed_of c.args.follow) Both true true))) _ ((o g.K.AbstractStates.ops
    (plan_of c.args.c.now)).assume (expr_view c.args.test.now) true false c.args.known)
    (followed g.K.AbstractStates.ops (plan_of c.args.c.now) c.args.here
    (followed_of c.args.follow) Both true false) _ _ _ c.in_ok-left.ensures (first_way (o g.K.AbstractStates.ops
    (plan_of c.args.c.now)) (flow_view c.args.before) _ ((o g.K.AbstractStates.ops (plan_of c.args.c.now)).assume
    (expr_view c.args.test.now) true true c.args.known) (followed g.K.AbstractStates.ops
    (plan_of c.args.c.now) c.args.here (followed_of c.args.follow) Both true true) _ _ c.in_ok-both.ensures
    (told_count _ _ _ c.in_ok-flow.ensures.log)) (told_count _ _ _ c.in_ok-flow-2.ensures.log)))

pub pass_four-returns-in_err-flow-3 : goal.pass_four-returns-in_err-flow-3
pass_four-returns-in_err-flow-3 g t c =
    err_passes _ c.from_residual-in_err-flow-3.result _ _ _ c.from_residual-in_err-flow-3.ensures.1
    (four_stop_three (o g.K.AbstractStates.ops (plan_of c.args.c.now)) (flow_view c.args.before)
    ((o g.K.AbstractStates.ops (plan_of c.args.c.now)).assume (expr_view c.args.test.now) true true c.args.known)
    ((o g.K.AbstractStates.ops (plan_of c.args.c.now)).assume
    (expr_view c.args.test.now) true false c.args.known) ((o g.K.AbstractStates.ops
    (plan_of c.args.c.now)).assume (expr_view c.args.test.now) false true c.args.known)
    ((o g.K.AbstractStates.ops (plan_of c.args.c.now)).assume
    (expr_view c.args.test.now) false false c.args.known) (followed g.K.AbstractStates.ops
    (plan_of c.args.c.now) c.args.here (followed_of c.args.follow) Both true true)
    (followed g.K.AbstractStates.ops (plan_of c.args.c.now) c.args.here
    (followed_of c.args.follow) Both true false) (followed g.K.AbstractStates.ops
    (plan_of c.args.c.now) c.args.here (followed_of c.args.follow) Both false true)
    (followed g.K.AbstractStates.ops (plan_of c.args.c.now) c.args.here
    (followed_of c.args.follow) Both false false) _ _ (next_way (o g.K.AbstractStates.ops
    (plan_of c.args.c.now)) c.in_ok-flow-2.flow (either_pass (o g.K.AbstractStates.ops (plan_of c.args.c.now))
    (either_pass (o g.K.AbstractStates.ops (plan_of c.args.c.now)) (flow_view c.args.before) (branch
    ((o g.K.AbstractStates.ops (plan_of c.args.c.now)).assume (expr_view c.args.test.now) true true c.args.known)
    (followed g.K.AbstractStates.ops (plan_of c.args.c.now) c.args.here
    (followed_of c.args.follow) Both true true))) (branch ((o g.K.AbstractStates.ops
    (plan_of c.args.c.now)).assume (expr_view c.args.test.now) true false c.args.known)
    (followed g.K.AbstractStates.ops (plan_of c.args.c.now) c.args.here
    (followed_of c.args.follow) Both true false))) _ ((o g.K.AbstractStates.ops (plan_of c.args.c.now)).assume
    (expr_view c.args.test.now) false true c.args.known) (followed g.K.AbstractStates.ops
    (plan_of c.args.c.now) c.args.here (followed_of c.args.follow) Both false true) _ _ _ c.in_ok-right.ensures
    (next_way (o g.K.AbstractStates.ops (plan_of c.args.c.now)) c.in_ok-flow.flow (either_pass
    (o g.K.AbstractStates.ops (plan_of c.args.c.now)) (flow_view c.args.before) (branch
    ((o g.K.AbstractStates.ops (plan_of c.args.c.now)).assume (expr_view c.args.test.now) true true c.args.known)
    (followed g.K.AbstractStates.ops (plan_of c.args.c.now) c.args.here
    (followed_of c.args.follow) Both true true))) _ ((o g.K.AbstractStates.ops (plan_of c.args.c.now)).assume
    (expr_view c.args.test.now) true false c.args.known) (followed g.K.AbstractStates.ops
    (plan_of c.args.c.now) c.args.here (followed_of c.args.follow) Both true false) _ _ _ c.in_ok-left.ensures
    (first_way (o g.K.AbstractStates.ops (plan_of c.args.c.now)) (flow_view c.args.before) _
    ((o g.K.AbstractStates.ops (plan_of c.args.c.now)).assume (expr_view c.args.test.now) true true c.args.known)
    (followed g.K.AbstractStates.ops (plan_of c.args.c.now) c.args.here
    (followed_of c.args.follow) Both true true) _ _ c.in_ok-both.ensures
    (told_count _ _ _ c.in_ok-flow.ensures.log))
    (told_count _ _ _ c.in_ok-flow-2.ensures.log)) c.in_err-flow-3.ensures))

pub pass_four-returns-in_err-neither : goal.pass_four-returns-in_err-neither
pass_four-returns-in_err-neither g t c =
    err_passes _ c.from_residual-in_err-neither.result _ _ _ c.from_residual-in_err-neither.ensures.1
    (four_stop_three (o g.K.AbstractStates.ops (plan_of c.args.c.now)) (flow_view c.args.before)
    ((o g.K.AbstractStates.ops (plan_of c.args.c.now)).assume (expr_view c.args.test.now) true true c.args.known)
    ((o g.K.AbstractStates.ops (plan_of c.args.c.now)).assume
    (expr_view c.args.test.now) true false c.args.known) ((o g.K.AbstractStates.ops
    (plan_of c.args.c.now)).assume (expr_view c.args.test.now) false true c.args.known)
    ((o g.K.AbstractStates.ops (plan_of c.args.c.now)).assume
    (expr_view c.args.test.now) false false c.args.known) (followed g.K.AbstractStates.ops
    (plan_of c.args.c.now) c.args.here (followed_of c.args.follow) Both true true)
    (followed g.K.AbstractStates.ops (plan_of c.args.c.now) c.args.here
    (followed_of c.args.follow) Both true false) (followed g.K.AbstractStates.ops
    (plan_of c.args.c.now) c.args.here (followed_of c.args.follow) Both false true)
    (followed g.K.AbstractStates.ops (plan_of c.args.c.now) c.args.here
    (followed_of c.args.follow) Both false false) _ _ (next_way (o g.K.AbstractStates.ops
    (plan_of c.args.c.now)) c.in_ok-flow-2.flow (either_pass (o g.K.AbstractStates.ops (plan_of c.args.c.now))
    (either_pass (o g.K.AbstractStates.ops (plan_of c.args.c.now)) (flow_view c.args.before) (branch
    ((o g.K.AbstractStates.ops (plan_of c.args.c.now)).assume (expr_view c.args.test.now) true true c.args.known)
    (followed g.K.AbstractStates.ops (plan_of c.args.c.now) c.args.here
    (followed_of c.args.follow) Both true true))) (branch ((o g.K.AbstractStates.ops
    (plan_of c.args.c.now)).assume (expr_view c.args.test.now) true false c.args.known)
    (followed g.K.AbstractStates.ops (plan_of c.args.c.now) c.args.here
    (followed_of c.args.follow) Both true false))) _ ((o g.K.AbstractStates.ops (plan_of c.args.c.now)).assume
    (expr_view c.args.test.now) false true c.args.known) (followed g.K.AbstractStates.ops
    (plan_of c.args.c.now) c.args.here (followed_of c.args.follow) Both false true) _ _ _ c.in_ok-right.ensures
    (next_way (o g.K.AbstractStates.ops (plan_of c.args.c.now)) c.in_ok-flow.flow (either_pass
    (o g.K.AbstractStates.ops (plan_of c.args.c.now)) (flow_view c.args.before) (branch
    ((o g.K.AbstractStates.ops (plan_of c.args.c.now)).assume (expr_view c.args.test.now) true true c.args.known)
    (followed g.K.AbstractStates.ops (plan_of c.args.c.now) c.args.here
    (followed_of c.args.follow) Both true true))) _ ((o g.K.AbstractStates.ops (plan_of c.args.c.now)).assume
    (expr_view c.args.test.now) true false c.args.known) (followed g.K.AbstractStates.ops
    (plan_of c.args.c.now) c.args.here (followed_of c.args.follow) Both true false) _ _ _ c.in_ok-left.ensures
    (first_way (o g.K.AbstractStates.ops (plan_of c.args.c.now)) (flow_view c.args.before) _
    ((o g.K.AbstractStates.ops (plan_of c.args.c.now)).assume (expr_view c.args.test.now) true true c.args.known)
    (followed g.K.AbstractStates.ops (plan_of c.args.c.now) c.args.here
    (followed_of c.args.follow) Both true true) _ _ c.in_ok-both.ensures
    (told_count _ _ _ c.in_ok-flow.ensures.log)) (told_count _ _ _ c.in_ok-flow-2.ensures.log))
    (told_count _ _ _ c.in_ok-flow-3.ensures.log)))

pub pass_two-returns-in_err-yes : goal.pass_two-returns-in_err-yes
pass_two-returns-in_err-yes g t c =
    err_passes _ c.from_residual.result _ _ _ c.from_residual.ensures.1
    (same_count _ _ _ refl)

pub pass_two-returns-in_err-flow : goal.pass_two-returns-in_err-flow
pass_two-returns-in_err-flow g t c =
    err_passes _ c.from_residual-in_err-flow.result _ _ _ c.from_residual-in_err-flow.ensures.1
    (two_stop (o g.K.AbstractStates.ops (plan_of c.args.c.now)) (flow_view c.args.before) (agreed
    (o g.K.AbstractStates.ops (plan_of c.args.c.now)) (mode_of c.args.mode)
    (expr_view c.args.test.now) true c.args.known) (agreed (o g.K.AbstractStates.ops (plan_of c.args.c.now))
    (mode_of c.args.mode) (expr_view c.args.test.now) false c.args.known) (agreed (o g.K.AbstractStates.ops
    (plan_of c.args.c.now)) (mode_of c.args.mode) (expr_view c.args.test.now) false c.args.known) (agreed
    (o g.K.AbstractStates.ops (plan_of c.args.c.now)) (mode_of c.args.mode)
    (expr_view c.args.test.now) false c.args.known) (followed g.K.AbstractStates.ops
    (plan_of c.args.c.now) c.args.here (followed_of c.args.follow) (mode_of c.args.mode) true true)
    (followed g.K.AbstractStates.ops (plan_of c.args.c.now) c.args.here (followed_of c.args.follow)
    (mode_of c.args.mode) false false) (followed g.K.AbstractStates.ops (plan_of c.args.c.now) c.args.here
    (followed_of c.args.follow) (mode_of c.args.mode) false false) (followed g.K.AbstractStates.ops
    (plan_of c.args.c.now) c.args.here (followed_of c.args.follow) (mode_of c.args.mode) false false) _ _
    (first_way (o g.K.AbstractStates.ops (plan_of c.args.c.now)) (flow_view c.args.before) _ (agreed
    (o g.K.AbstractStates.ops (plan_of c.args.c.now)) (mode_of c.args.mode)
    (expr_view c.args.test.now) true c.args.known) (followed g.K.AbstractStates.ops
    (plan_of c.args.c.now) c.args.here (followed_of c.args.follow)
    (mode_of c.args.mode) true true) _ _ c.in_ok-yes.ensures c.in_err-flow.ensures))

pub pass_two-returns-in_err-no : goal.pass_two-returns-in_err-no
pass_two-returns-in_err-no g t c =
    err_passes _ c.from_residual-in_err-no.result _ _ _ c.from_residual-in_err-no.ensures.1
    (two_stop (o g.K.AbstractStates.ops (plan_of c.args.c.now)) (flow_view c.args.before) (agreed
    (o g.K.AbstractStates.ops (plan_of c.args.c.now)) (mode_of c.args.mode)
    (expr_view c.args.test.now) true c.args.known) (agreed (o g.K.AbstractStates.ops (plan_of c.args.c.now))
    (mode_of c.args.mode) (expr_view c.args.test.now) false c.args.known) (agreed (o g.K.AbstractStates.ops
    (plan_of c.args.c.now)) (mode_of c.args.mode) (expr_view c.args.test.now) false c.args.known) (agreed
    (o g.K.AbstractStates.ops (plan_of c.args.c.now)) (mode_of c.args.mode)
    (expr_view c.args.test.now) false c.args.known) (followed g.K.AbstractStates.ops
    (plan_of c.args.c.now) c.args.here (followed_of c.args.follow) (mode_of c.args.mode) true true)
    (followed g.K.AbstractStates.ops (plan_of c.args.c.now) c.args.here (followed_of c.args.follow)
    (mode_of c.args.mode) false false) (followed g.K.AbstractStates.ops (plan_of c.args.c.now) c.args.here
    (followed_of c.args.follow) (mode_of c.args.mode) false false) (followed g.K.AbstractStates.ops
    (plan_of c.args.c.now) c.args.here (followed_of c.args.follow) (mode_of c.args.mode) false false) _ _
    (first_way (o g.K.AbstractStates.ops (plan_of c.args.c.now)) (flow_view c.args.before) _ (agreed
    (o g.K.AbstractStates.ops (plan_of c.args.c.now)) (mode_of c.args.mode)
    (expr_view c.args.test.now) true c.args.known) (followed g.K.AbstractStates.ops
    (plan_of c.args.c.now) c.args.here (followed_of c.args.follow)
    (mode_of c.args.mode) true true) _ _ c.in_ok-yes.ensures (told_count _ _ _ c.in_ok-flow.ensures.log)))

pub pass_heads-returns-in_err-rounds : goal.pass_heads-returns-in_err-rounds
pass_heads-returns-in_err-rounds g t c =
    err_passes _ c.from_residual.result _ _ _ c.from_residual.ensures.1
    (same_count _ _ _ refl)

pub pass_heads-returns-in_err-kept : goal.pass_heads-returns-in_err-kept
pass_heads-returns-in_err-kept g t c =
    err_passes _ c.from_residual-in_err-kept.result _ _ _ c.from_residual-in_err-kept.ensures.1
    (heads_stop g.K.AbstractStates.ops (plan_of c.args.c.now) c.args.here (loop_of c.args.parts)
    (ways_view c.args.before) c.heads.rounds c.heads.head c.heads.log c.args.log.now _ c.heads.invariant _ refl)

pub pass_heads-returns-in_err-copy : goal.pass_heads-returns-in_err-copy
pass_heads-returns-in_err-copy g t c =
    err_passes _ c.from_residual-in_err-copy.result _ _ _ c.from_residual-in_err-copy.ensures.1
    (heads_stop g.K.AbstractStates.ops (plan_of c.args.c.now) c.args.here (loop_of c.args.parts)
    (ways_view c.args.before) c.heads.rounds c.heads.head c.heads.log c.args.log.now _ c.heads.invariant _ refl)

pub pass_heads-returns-in_err-flow : goal.pass_heads-returns-in_err-flow
pass_heads-returns-in_err-flow g t c =
    err_passes _ c.from_residual-in_err-flow.result _ _ _ c.from_residual-in_err-flow.ensures.1
    (turn_stops g.K.AbstractStates.ops (plan_of c.args.c.now) c.args.here (loop_of c.args.parts)
    (ways_view c.args.before) c.heads.rounds c.heads.head c.heads.log c.args.log.now _ c.heads.invariant _
    (ways_view c.in_ok-kept.kept) c.in_ok-copy.copy _ _ c.heads-test.true c.in_ok-kept.ensures
    c.in_ok-copy.ensures c.begun-found.ensures.count (rw c.in_err-flow.was at c.pass_turn-turn.ensures)
    (capped-told _ _ _ _ c.found-in-heads.view_is c.count_more.ensures.count))

pub pass_heads-returns-in_err-wider : goal.pass_heads-returns-in_err-wider
pass_heads-returns-in_err-wider g t c =
    err_passes _ c.from_residual-in_err-wider.result _ _ _ c.from_residual-in_err-wider.ensures.1
    (turn_stops g.K.AbstractStates.ops (plan_of c.args.c.now) c.args.here (loop_of c.args.parts)
    (ways_view c.args.before) c.heads.rounds c.heads.head c.heads.log c.args.log.now _ c.heads.invariant _
    (ways_view c.in_ok-kept.kept) c.in_ok-copy.copy _ _ c.heads-test.true c.in_ok-kept.ensures
    c.in_ok-copy.ensures c.begun-found.ensures.count (told_count _ _ _
    (rw c.in_ok-flow.was at c.pass_turn-turn.ensures).log)
    (capped-told _ _ _ _ c.found-in-heads.view_is c.count_more.ensures.count))

pub pass_heads-returns-in_err-keep-in-None : goal.pass_heads-returns-in_err-keep-in-None
pass_heads-returns-in_err-keep-in-None g t c =
    err_passes _ c.from_residual-in_err-keep-in-None.result _ _ _ c.from_residual-in_err-keep-in-None.ensures.1
    (turn_stops g.K.AbstractStates.ops (plan_of c.args.c.now) c.args.here (loop_of c.args.parts)
    (ways_view c.args.before) c.heads.rounds c.heads.head c.heads.log c.args.log.now _ c.heads.invariant _
    (ways_view c.in_ok-kept.kept) c.in_ok-copy.copy _ _ c.heads-test.true c.in_ok-kept.ensures
    c.in_ok-copy.ensures c.begun-found.ensures.count (told_count _ _ _
    (rw c.in_ok-flow.was at c.pass_turn-turn.ensures).log) (ap capped c.keep.ensures.count
    ∙ capped-told _ _ _ _ c.found-in-heads.view_is c.count_more.ensures.count))

pub pass_heads-returns-in_err-rounds-in-Some : goal.pass_heads-returns-in_err-rounds-in-Some
pass_heads-returns-in_err-rounds-in-Some g t c =
    err_passes _ c.from_residual-in_err-rounds-in-Some.result _ _ _ c.from_residual-in_err-rounds-in-Some.ensures.1
    (turn_stops g.K.AbstractStates.ops (plan_of c.args.c.now) c.args.here (loop_of c.args.parts)
    (ways_view c.args.before) c.heads.rounds c.heads.head c.heads.log c.args.log.now _ c.heads.invariant _
    (ways_view c.in_ok-kept.kept) c.in_ok-copy.copy _ _ c.heads-test.true c.in_ok-kept.ensures
    c.in_ok-copy.ensures c.begun-found.ensures.count (told_count _ _ _
    (rw c.in_ok-flow.was at c.pass_turn-turn.ensures).log) (ap capped c.in_err-rounds-in-Some.ensures.stop
    ∙ capped-told _ _ _ _ c.found-in-heads.view_is c.count_more.ensures.count))

pub pass_heads-returns-in_err-head : goal.pass_heads-returns-in_err-head
pass_heads-returns-in_err-head g t c =
    err_passes _ c.from_residual-in_err-head.result _ _ _ c.from_residual-in_err-head.ensures.1
    (heads_stop g.K.AbstractStates.ops (plan_of c.args.c.now) c.args.here (loop_of c.args.parts)
    (ways_view c.args.before) c.heads.rounds c.heads.head c.heads.log c.args.log.now _ c.heads.invariant _ refl)

pub pass_heads-returns-in_err-copy-2 : goal.pass_heads-returns-in_err-copy-2
pass_heads-returns-in_err-copy-2 g t c =
    err_passes _ c.from_residual-in_err-copy-2.result _ _ _ c.from_residual-in_err-copy-2.ensures.1
    (heads_stop g.K.AbstractStates.ops (plan_of c.args.c.now) c.args.here (loop_of c.args.parts)
    (ways_view c.args.before) c.heads.rounds c.heads.head c.heads.log c.args.log.now _ c.heads.invariant _ refl)

pub pass_heads-returns-in_err-flow-2 : goal.pass_heads-returns-in_err-flow-2
pass_heads-returns-in_err-flow-2 g t c =
    err_passes _ c.from_residual-in_err-flow-2.result _ _ _ c.from_residual-in_err-flow-2.ensures.1
    (last_stops g.K.AbstractStates.ops (plan_of c.args.c.now) c.args.here (loop_of c.args.parts)
    (ways_view c.args.before) c.heads.rounds c.heads.head c.heads.log c.args.log.now _ c.heads.invariant _
    (ways_view c.args.before) c.in_ok-copy-2.copy _ _ (omega (arith, c.heads-test.false)) refl
    (c.in_ok-copy-2.ensures ∙ c.in_ok-head.ensures) c.begun-found-2.ensures.count
    (rw c.in_err-flow-2.was at c.pass_turn-turn-2.ensures)
    (capped-told _ _ _ _ c.found-3.view_is c.count_more-2.ensures.count))

pub pass_heads-returns-in_err-keep : goal.pass_heads-returns-in_err-keep
pass_heads-returns-in_err-keep g t c =
    err_passes _ c.from_residual-in_err-keep.result _ _ _ c.from_residual-in_err-keep.ensures.1
    (last_stops g.K.AbstractStates.ops (plan_of c.args.c.now) c.args.here (loop_of c.args.parts)
    (ways_view c.args.before) c.heads.rounds c.heads.head c.heads.log c.args.log.now _ c.heads.invariant _
    (ways_view c.args.before) c.in_ok-copy-2.copy _ _ (omega (arith, c.heads-test.false)) refl
    (c.in_ok-copy-2.ensures ∙ c.in_ok-head.ensures) c.begun-found-2.ensures.count (told_count _ _ _
    (rw c.in_ok-flow-2.was at c.pass_turn-turn-2.ensures).log) (ap capped c.keep-2.ensures.count
    ∙ capped-told _ _ _ _ c.found-3.view_is c.count_more-2.ensures.count))

pub pass_last-returns-in_err-head-in-Together : goal.pass_last-returns-in_err-head-in-Together
pass_last-returns-in_err-head-in-Together g t c =
    err_passes _ c.from_residual.result _ _ _ c.from_residual.ensures.1
    (same_count _ _ _ refl)

pub pass_list-returns-in_err-on : goal.pass_list-returns-in_err-on
pass_list-returns-in_err-on g t c =
    err_passes _ c.from_residual.result _ _ _ c.from_residual.ensures.1
    (rows_stop g.K.AbstractStates.ops (plan_of c.args.c.now) c.args.here
    (mode_of c.args.mode) c.args.body.now c.loop-s.s-index c.s-item.result c.loop-s.at
    (ways_view c.loop-s.ways) c.loop-s.log c.args.log.now _ _ c.loop-s-test.true c.s-item.is c.loop-s.invariant
    c.in_err-on.ensures)

pub pass_list-returns-in_err-ways : goal.pass_list-returns-in_err-ways
pass_list-returns-in_err-ways g t c =
    err_passes _ c.from_residual-in_err-ways.result _ _ _ c.from_residual-in_err-ways.ensures.1
    (rows_stop g.K.AbstractStates.ops (plan_of c.args.c.now) c.args.here
    (mode_of c.args.mode) c.args.body.now c.loop-s.s-index c.s-item.result c.loop-s.at
    (ways_view c.loop-s.ways) c.loop-s.log c.args.log.now _ _ c.loop-s-test.true c.s-item.is c.loop-s.invariant
    (told_count _ _ _ c.in_ok-on.ensures.log))

pub pass_lone-returns-in_err-flow-in-Together : goal.pass_lone-returns-in_err-flow-in-Together
pass_lone-returns-in_err-flow-in-Together g t c =
    err_passes _ c.from_residual.result _ _ _ c.from_residual.ensures.1
    (lone_stops g.K.AbstractStates.ops (plan_of c.args.c.now) c.args.here (loop_of c.args.parts)
    (mode_of c.args.mode) (side_of c.args.machine) c.args.known _ _
    (ap mode_of c.in-Together.is) c.in_err-flow-in-Together.ensures)

pub pass_loop-returns-in_err-flow : goal.pass_loop-returns-in_err-flow
pass_loop-returns-in_err-flow g t c =
    err_passes _ c.from_residual.result _ _ _ c.from_residual.ensures.1
    (tests_stop g.K.AbstractStates.ops (plan_of c.args.c.now) c.args.here (loop_of c.args.parts)
    (mode_of c.args.mode) c.args.tests_first c.args.known _ _
    (ways_view c.none.result) c.if-tests_first.true c.none.ensures c.in_err-flow.ensures)

pub pass_loop-returns-in_err-flow-in-Together : goal.pass_loop-returns-in_err-flow-in-Together
pass_loop-returns-in_err-flow-in-Together g t c =
    err_passes _ c.from_residual-in_err-flow-in-Together.result _ _ _
    c.from_residual-in_err-flow-in-Together.ensures.1
    (begun_stop g.K.AbstractStates.ops (plan_of c.args.c.now) c.args.here (loop_of c.args.parts)
    (mode_of c.args.mode) c.args.tests_first c.args.known _ _ c.saturating_sub-count.result c.if-tests_first.false
    (ap mode_of c.in-Together.is) c.saturating_sub-count.ensures c.in_err-flow-in-Together.ensures)

pub pass_loop-returns-in_err-flow-in-Alone : goal.pass_loop-returns-in_err-flow-in-Alone
pass_loop-returns-in_err-flow-in-Alone g t c =
    err_passes _ c.from_residual-in_err-flow-in-Alone.result _ _ _ c.from_residual-in_err-flow-in-Alone.ensures.1
    (entered_stop g.K.AbstractStates.ops (plan_of c.args.c.now) c.args.here (loop_of c.args.parts)
    (mode_of c.args.mode) c.args.tests_first c.args.known _ _ _ c.if-tests_first.false
    (ap mode_of c.in-Alone.is) c.in_err-flow-in-Alone.ensures)

pub pass_rounds-returns-in_err-on : goal.pass_rounds-returns-in_err-on
pass_rounds-returns-in_err-on g t c =
    err_passes _ c.from_residual.result _ _ _ c.from_residual.ensures.1
    (turns_stop (o g.K.AbstractStates.ops (plan_of c.args.c.now)) (turn_of g.K.AbstractStates.ops
    (plan_of c.args.c.now) c.args.here (loop_of c.args.parts) (mode_of c.args.mode))
    (last_of g.K.AbstractStates.ops (plan_of c.args.c.now) c.args.here (loop_of c.args.parts)
    (mode_of c.args.mode)) c.args.count c.loop-turn._turn c.loop-turn.at
    (ways_view c.loop-turn.ways) c.loop-turn.log c.args.log.now _ _ c.loop-turn-test.true c.loop-turn.invariant
    c.in_err-on.ensures)

pub pass_rounds-returns-in_err-ways : goal.pass_rounds-returns-in_err-ways
pass_rounds-returns-in_err-ways g t c =
    err_passes _ c.from_residual-in_err-ways.result _ _ _ c.from_residual-in_err-ways.ensures.1
    (turns_stop_last (o g.K.AbstractStates.ops (plan_of c.args.c.now)) (turn_of g.K.AbstractStates.ops
    (plan_of c.args.c.now) c.args.here (loop_of c.args.parts) (mode_of c.args.mode))
    (last_of g.K.AbstractStates.ops (plan_of c.args.c.now) c.args.here (loop_of c.args.parts)
    (mode_of c.args.mode)) c.args.count c.loop-turn._turn c.loop-turn.at
    (ways_view c.loop-turn.ways) c.loop-turn.log c.args.log.now _ _ c.loop-turn-test.false c.loop-turn.invariant
    c.in_err-ways.ensures)

pub pass_stmt-returns-in_err-inner-in-Scope : goal.pass_stmt-returns-in_err-inner-in-Scope
pass_stmt-returns-in_err-inner-in-Scope g t c =
    err_passes _ c.from_residual.result _ _ _ c.from_residual.ensures.1
    (same_count _ _ _ refl)

pub pass_stmt-returns-in_err-flow-in-Scope : goal.pass_stmt-returns-in_err-flow-in-Scope
pass_stmt-returns-in_err-flow-in-Scope g t c =
    err_passes _ c.from_residual-in_err-flow-in-Scope.result _ _ _ c.from_residual-in_err-flow-in-Scope.ensures.1
    (scope_stops g.K.AbstractStates.ops (plan_of c.args.c.now) c.args.here c.args.s.now.what
    (mode_of c.args.mode) c.args.s.now.line c.args.known (Err
    (record {})) c.args.log.now c.pass_list.new.log c.in-Scope.blocks c.in-Scope.body c.deref-in-Scope.result.now
    c.deref-in-Scope-2.result.now c.in_ok-inner-in-Scope.inner c.in-Scope.is c.deref-in-Scope.ensures.value
    c.deref-in-Scope-2.ensures.value c.in_ok-inner-in-Scope.ensures c.in_err-flow-in-Scope.ensures)

pub pass_test-returns-in_err-truths : goal.pass_test-returns-in_err-truths
pass_test-returns-in_err-truths g t c =
    err_passes _ c.from_residual.result _ _ _ c.from_residual.ensures.1
    (same_count _ _ _ (same_turns _ _ c.log.view_is))
