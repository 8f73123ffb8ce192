-- Stops.
use Rattle.std.proofs.Common.{sym, ap, ◌-◌, map, if◌then◌else◌}
use Rattle.std.specs.Option.{option_map}
use Rattle.ep_core.specs.View.{dest_view, expr_view, stmts_view, function_view}
use Rattle.ep_pass.specs.Pass.{branch, none, past}
use Rattle.ep_flows.specs.View.{mode_of, plan_of, side_of, ways_view, flow_view}
use Rattle.ep_walk_parts.specs.Pieces.{followed_of, loop_of}
use Rattle.ep_walk_parts.proofs.TypedParts.{callee_is, callee_less}
use Rattle.ep_certcheck_walk.specs.Leaving.{way_of_leaving}
use Rattle.ep_certcheck_walk.specs.Pieces.{begun_of, entered_of, function, heads, rounds_of, row, turned}
use Rattle.ep_certcheck_walk.specs.Stops.{course}
use Rattle.ep_certcheck_walk.proofs.Arms.{call_first, call_is, call_second, scope_stops}
use Rattle.ep_certcheck_walk.proofs.Combined.{then_front}
use Rattle.ep_certcheck_walk.proofs.Rows.{rows_stop, turns_stop}
use Rattle.ep_certcheck_walk.proofs.Turning.{body_stops, err_finds, follows_stops, four_first, four_second, four_third}
use Rattle.ep_certcheck_walk.proofs.Turning.{given_first, given_last, given_turn, last_stops, left_stops, lone_stops}
use Rattle.ep_certcheck_walk.proofs.Turning.{loop_alone, loop_both, loop_tests, next_stops, parted_first, parted_none}
use Rattle.ep_certcheck_walk.proofs.Turning.{parted_second, parted_third, same_stops, right_first, right_second}
use Rattle.ep_certcheck_walk.proofs.Turning.{test_first, two_stops}
use Rattle.ep_certcheck_walk.proofs.statements.+walk.Goals as goal

pub follow_truths-returns-in_err-at : goal.follow_truths-returns-in_err-at
follow_truths-returns-in_err-at g t c =
    err_finds (course g.K.AbstractStates.ops g.K.CheckedStates.first_outside
    (plan_of c.args.c.now) c.args.heads.now) _ c.from_residual.result _ c.args.taken.now _ c.from_residual.ensures.1 tt

pub follow_truths-returns-in_err-next : goal.follow_truths-returns-in_err-next
follow_truths-returns-in_err-next g t c =
    let o = (course g.K.AbstractStates.ops g.K.CheckedStates.first_outside (plan_of c.args.c.now) c.args.heads.now) in
    err_finds o _ c.from_residual-in_err-next.result _ c.args.taken.now _ c.from_residual-in_err-next.ensures.1
    (follows_stops o c.args.here (followed_of c.args.follow) c.args.taken.now (mode_of c.args.mode)
    (expr_view c.args.test.now) c.args.on_left c.args.on_right c.args.known.now c.args.before c.in_ok-at.at _
    c.in_err-next.ensures (c.in_ok-at.ensures c.args.heads.now))

pub follow_truths-returns-in_err-whole : goal.follow_truths-returns-in_err-whole
follow_truths-returns-in_err-whole g t c =
    err_finds (course g.K.AbstractStates.ops g.K.CheckedStates.first_outside
    (plan_of c.args.c.now) c.args.heads.now) _ c.from_residual-in_err-whole.result _ c.args.taken.now _
    c.from_residual-in_err-whole.ensures.1 tt

pub pass_apart-returns-in_err-on : goal.pass_apart-returns-in_err-on
pass_apart-returns-in_err-on g t c =
    let o = (course g.K.AbstractStates.ops g.K.CheckedStates.first_outside (plan_of c.args.c.now) c.args.heads.now) in
    err_finds o _ c.from_residual.result _ c.args.taken.now _ c.from_residual.ensures.1
    (parted_none o c.args.here c.args.line (stmts_view c.args.first.now)
    (stmts_view c.args.second.now) c.args.known c.args.taken.now _ c.in_err-on.ensures)

pub pass_apart-returns-in_err-flow : goal.pass_apart-returns-in_err-flow
pass_apart-returns-in_err-flow g t c =
    let o = (course g.K.AbstractStates.ops g.K.CheckedStates.first_outside (plan_of c.args.c.now) c.args.heads.now) in
    err_finds o _ c.from_residual-in_err-flow.result _ c.args.taken.now _ c.from_residual-in_err-flow.ensures.1
    (parted_first o c.args.here c.args.line (stmts_view c.args.first.now)
    (stmts_view c.args.second.now) c.args.known c.args.taken.now _ c.in_ok-on.field-0 c.in_ok-on.ensures
    c.none-flow.result c.none-flow.ensures.on c.none-flow.ensures.ways _ c.in_err-flow.ensures)

pub pass_apart-returns-in_err-flow-2 : goal.pass_apart-returns-in_err-flow-2
pass_apart-returns-in_err-flow-2 g t c =
    let o = (course g.K.AbstractStates.ops g.K.CheckedStates.first_outside (plan_of c.args.c.now) c.args.heads.now) in
    err_finds o _ c.from_residual-in_err-flow-2.result _ c.args.taken.now _ c.from_residual-in_err-flow-2.ensures.1
    (parted_second o c.args.here c.args.line (stmts_view c.args.first.now)
    (stmts_view c.args.second.now) c.args.known c.args.taken.now _ c.in_ok-on.field-0 c.in_ok-on.ensures
    c.none-flow.result c.none-flow.ensures.on c.none-flow.ensures.ways c.in_ok-flow.flow _ c.in_ok-flow.ensures _
    c.in_err-flow-2.ensures)

pub pass_apart-returns-in_err-flow-3 : goal.pass_apart-returns-in_err-flow-3
pass_apart-returns-in_err-flow-3 g t c =
    let o = (course g.K.AbstractStates.ops g.K.CheckedStates.first_outside (plan_of c.args.c.now) c.args.heads.now) in
    err_finds o _ c.from_residual-in_err-flow-3.result _ c.args.taken.now _ c.from_residual-in_err-flow-3.ensures.1
    (parted_third o c.args.here c.args.line (stmts_view c.args.first.now)
    (stmts_view c.args.second.now) c.args.known c.args.taken.now _ c.in_ok-on.field-0 c.in_ok-on.ensures
    c.none-flow.result c.none-flow.ensures.on c.none-flow.ensures.ways c.in_ok-flow.flow _ c.in_ok-flow.ensures
    c.in_ok-flow-2.flow _ c.in_ok-flow-2.ensures _ c.in_err-flow-3.ensures)

pub pass_begun-returns-in_err-on : goal.pass_begun-returns-in_err-on
pass_begun-returns-in_err-on g t c =
    let o = (course g.K.AbstractStates.ops g.K.CheckedStates.first_outside (plan_of c.args.c.now) c.args.heads.now) in
    err_finds o _ c.from_residual.result _ c.args.taken.now _ c.from_residual.ensures.1
    (then_front o (turned o c.args.here (loop_of c.args.parts) c.args.taken.now
    (mode_of c.args.mode) c.args.known) none
    (rounds_of o c.args.here (loop_of c.args.parts) (mode_of c.args.mode) c.args.count
    (past (heads o) c.args.taken.now
    (turned o c.args.here (loop_of c.args.parts) c.args.taken.now
    (mode_of c.args.mode) c.args.known))) _ c.in_err-on.ensures)

pub pass_body-returns-in_err-on : goal.pass_body-returns-in_err-on
pass_body-returns-in_err-on g t c =
    let o = (course g.K.AbstractStates.ops g.K.CheckedStates.first_outside (plan_of c.args.c.now) c.args.heads.now) in
    err_finds o _ c.from_residual.result _ c.args.taken.now _ c.from_residual.ensures.1
    (body_stops o (row o c.args.here (stmts_view c.args.parts.body.now) c.args.taken.now
    (mode_of c.args.mode) c.args.known)
    (row o c.args.here (stmts_view c.args.parts.next.now)
    (past (heads o) c.args.taken.now
    (row o c.args.here (stmts_view c.args.parts.body.now) c.args.taken.now (mode_of c.args.mode) c.args.known))
    (mode_of c.args.mode)) _ c.in_err-on.ensures)

pub pass_body-returns-in_err-ended : goal.pass_body-returns-in_err-ended
pass_body-returns-in_err-ended g t c =
    err_finds (course g.K.AbstractStates.ops g.K.CheckedStates.first_outside
    (plan_of c.args.c.now) c.args.heads.now) _ c.from_residual-in_err-ended.result _ c.args.taken.now _
    c.from_residual-in_err-ended.ensures.1 tt

pub pass_body-returns-in_err-on-2 : goal.pass_body-returns-in_err-on-2
pass_body-returns-in_err-on-2 g t c =
    let o = (course g.K.AbstractStates.ops g.K.CheckedStates.first_outside (plan_of c.args.c.now) c.args.heads.now) in
    err_finds o _ c.from_residual-in_err-on-2.result _ c.args.taken.now _ c.from_residual-in_err-on-2.ensures.1
    (next_stops o (row o c.args.here (stmts_view c.args.parts.body.now) c.args.taken.now
    (mode_of c.args.mode) c.args.known)
    (row o c.args.here (stmts_view c.args.parts.next.now)
    (past (heads o) c.args.taken.now
    (row o c.args.here (stmts_view c.args.parts.body.now) c.args.taken.now (mode_of c.args.mode) c.args.known))
    (mode_of c.args.mode)) c.in_ok-on.field-0 c.in_ok-ended.ended c.args.taken.now _ c.in_ok-on.ensures
    c.in_ok-ended.ensures _ (same_stops o (branch c.in_ok-ended.ended (row o c.args.here (stmts_view
    c.args.parts.next.now) c.pass_list.new.taken (mode_of c.args.mode))) _ _ (ap (λ z. branch c.in_ok-ended.ended (row
    o c.args.here (stmts_view c.args.parts.next.now) z (mode_of c.args.mode))) c.in_ok-on.ensures.log.taken)
    c.in_err-on-2.ensures))

pub pass_call-returns-in_err-inner-in-Some : goal.pass_call-returns-in_err-inner-in-Some
pass_call-returns-in_err-inner-in-Some g t c =
    let o = (course g.K.AbstractStates.ops g.K.CheckedStates.first_outside (plan_of c.args.c.now) c.args.heads.now) in
    let e = rw c.in-Some.is at c.callee.ensures in
    let f = function_view c.in-Some.f.now in
    let is = callee_is c.args.c.now.program.now c.args.k c.args.here c.in-Some.f.now (sym e) in
    let less = callee_less c.args.c.now.program.now c.args.k c.args.here c.in-Some.f.now (sym e) in
    err_finds o _ c.from_residual.result _ c.args.taken.now _ c.from_residual.ensures.1
    (same_stops o _ _ _ (call_is o c.args.here (mode_of c.args.mode) c.args.line c.args.k
    (map expr_view c.args.es.now) (option_map dest_view c.args.d.now) c.args.known c.args.taken.now f is less)
    (call_first o (mode_of c.args.mode) c.args.line f (map expr_view c.args.es.now)
    (option_map dest_view c.args.d.now)
    (function o c.args.k c.args.taken.now (mode_of c.args.mode)) c.args.known _
    (c.in_err-inner-in-Some.ensures c.args.heads.now)))

pub pass_call-returns-in_err-flow-in-Some : goal.pass_call-returns-in_err-flow-in-Some
pass_call-returns-in_err-flow-in-Some g t c =
    let o = (course g.K.AbstractStates.ops g.K.CheckedStates.first_outside (plan_of c.args.c.now) c.args.heads.now) in
    let e = rw c.in-Some.is at c.callee.ensures in
    let f = function_view c.in-Some.f.now in
    let is = callee_is c.args.c.now.program.now c.args.k c.args.here c.in-Some.f.now (sym e) in
    let less = callee_less c.args.c.now.program.now c.args.k c.args.here c.in-Some.f.now (sym e) in
    err_finds o _ c.from_residual-in_err-flow-in-Some.result _ c.args.taken.now _
    c.from_residual-in_err-flow-in-Some.ensures.1 (same_stops o _ _ _ (call_is o c.args.here (mode_of c.args.mode)
    c.args.line c.args.k (map expr_view c.args.es.now) (option_map dest_view c.args.d.now) c.args.known
    c.args.taken.now f is less) (call_second o (mode_of c.args.mode) c.args.line f (map expr_view c.args.es.now)
    (option_map dest_view c.args.d.now) (function o c.args.k c.args.taken.now (mode_of c.args.mode)) c.args.known
    c.args.taken.now (c.in_ok-inner-in-Some.ensures c.args.heads.now).0 c.in_ok-inner-in-Some.inner
    (c.in_ok-inner-in-Some.ensures c.args.heads.now).1 _ c.in_err-flow-in-Some.ensures))

pub pass_call-returns-in_err-left-in-Some : goal.pass_call-returns-in_err-left-in-Some
pass_call-returns-in_err-left-in-Some g t c =
    err_finds (course g.K.AbstractStates.ops g.K.CheckedStates.first_outside
    (plan_of c.args.c.now) c.args.heads.now) _ c.from_residual-in_err-left-in-Some.result _ c.args.taken.now _
    c.from_residual-in_err-left-in-Some.ensures.1 tt

pub pass_four-returns-in_err-flow : goal.pass_four-returns-in_err-flow
pass_four-returns-in_err-flow g t c =
    let o = (course g.K.AbstractStates.ops g.K.CheckedStates.first_outside (plan_of c.args.c.now) c.args.heads.now) in
    err_finds o _ c.from_residual.result _ c.args.taken.now _ c.from_residual.ensures.1
    (four_first o c.args.here (followed_of c.args.follow) c.args.taken.now
    (expr_view c.args.test.now) c.args.known c.args.before _ c.in_err-flow.ensures)

pub pass_four-returns-in_err-flow-2 : goal.pass_four-returns-in_err-flow-2
pass_four-returns-in_err-flow-2 g t c =
    let o = (course g.K.AbstractStates.ops g.K.CheckedStates.first_outside (plan_of c.args.c.now) c.args.heads.now) in
    err_finds o _ c.from_residual-in_err-flow-2.result _ c.args.taken.now _ c.from_residual-in_err-flow-2.ensures.1
    (four_second o c.args.here (followed_of c.args.follow) c.args.taken.now
    (expr_view c.args.test.now) c.args.known c.args.before c.in_ok-flow.flow _ c.in_ok-flow.ensures _
    c.in_err-flow-2.ensures)

pub pass_four-returns-in_err-flow-3 : goal.pass_four-returns-in_err-flow-3
pass_four-returns-in_err-flow-3 g t c =
    let o = (course g.K.AbstractStates.ops g.K.CheckedStates.first_outside (plan_of c.args.c.now) c.args.heads.now) in
    err_finds o _ c.from_residual-in_err-flow-3.result _ c.args.taken.now _ c.from_residual-in_err-flow-3.ensures.1
    (four_third o c.args.here (followed_of c.args.follow) c.args.taken.now
    (expr_view c.args.test.now) c.args.known c.args.before c.in_ok-flow.flow _ c.in_ok-flow.ensures c.in_ok-flow-2.flow
    _ c.in_ok-flow-2.ensures _ c.in_err-flow-3.ensures)

pub pass_two-returns-in_err-flow : goal.pass_two-returns-in_err-flow
pass_two-returns-in_err-flow g t c =
    let o = (course g.K.AbstractStates.ops g.K.CheckedStates.first_outside (plan_of c.args.c.now) c.args.heads.now) in
    err_finds o _ c.from_residual.result _ c.args.taken.now _ c.from_residual.ensures.1
    (two_stops o c.args.here (followed_of c.args.follow) c.args.taken.now (mode_of c.args.mode)
    (expr_view c.args.test.now) c.args.known (flow_view c.args.before) _ c.in_err-flow.ensures)

pub pass_given-returns-in_err-stay_within-in-Some : goal.pass_given-returns-in_err-stay_within-in-Some
pass_given-returns-in_err-stay_within-in-Some g t c =
    let o = (course g.K.AbstractStates.ops g.K.CheckedStates.first_outside (plan_of c.args.c.now) c.args.heads.now) in
    let e = rw c.in-Some.is at c.next_head.ensures.head in
    err_finds o _ c.from_residual.result _ c.args.taken.now _ c.from_residual.ensures.1
    (given_first o c.args.here (loop_of c.args.parts) c.args.taken.now
    (ways_view c.args.before) c.args.known c.in-Some.head.now (sym e) _
    (c.in_err-stay_within-in-Some.ensures c.args.parts.line c.args.heads.now (sym e)))

pub pass_given-returns-in_err-copy-in-Some : goal.pass_given-returns-in_err-copy-in-Some
pass_given-returns-in_err-copy-in-Some g t c =
    err_finds (course g.K.AbstractStates.ops g.K.CheckedStates.first_outside
    (plan_of c.args.c.now) c.args.heads.now) _ c.from_residual-in_err-copy-in-Some.result _ c.args.taken.now _
    c.from_residual-in_err-copy-in-Some.ensures.1 tt

pub pass_given-returns-in_err-on-in-Some : goal.pass_given-returns-in_err-on-in-Some
pass_given-returns-in_err-on-in-Some g t c =
    let o = (course g.K.AbstractStates.ops g.K.CheckedStates.first_outside (plan_of c.args.c.now) c.args.heads.now) in
    let e = rw c.in-Some.is at c.next_head.ensures.head in
    let k = rw c.in-Some.is at c.next_head.ensures.taken in
    err_finds o _ c.from_residual-in_err-on-in-Some.result _ c.args.taken.now _
    c.from_residual-in_err-on-in-Some.ensures.1 (given_turn o c.args.here (loop_of c.args.parts) c.args.taken.now
    (ways_view c.args.before) c.args.known c.in-Some.head.now (sym e) (c.in_ok-stay_within-in-Some.ensures
    c.args.parts.line c.args.heads.now (sym e)).0 c.next_head.new.taken c.in_ok-copy-in-Some.copy k
    c.in_ok-copy-in-Some.ensures _ c.in_err-on-in-Some.ensures)

pub pass_given-returns-in_err-stay_reached-in-Some : goal.pass_given-returns-in_err-stay_reached-in-Some
pass_given-returns-in_err-stay_reached-in-Some g t c =
    let o = (course g.K.AbstractStates.ops g.K.CheckedStates.first_outside (plan_of c.args.c.now) c.args.heads.now) in
    let e = rw c.in-Some.is at c.next_head.ensures.head in
    let k = rw c.in-Some.is at c.next_head.ensures.taken in
    err_finds o _ c.from_residual-in_err-stay_reached-in-Some.result _ c.args.taken.now _
    c.from_residual-in_err-stay_reached-in-Some.ensures.1 (given_last o c.args.here (loop_of c.args.parts)
    c.args.taken.now (ways_view c.args.before) c.args.known c.in-Some.head.now (sym e)
    (c.in_ok-stay_within-in-Some.ensures c.args.parts.line c.args.heads.now (sym e)).0 c.next_head.new.taken
    c.in_ok-copy-in-Some.copy k c.in_ok-copy-in-Some.ensures c.in_ok-on-in-Some.field-0 _ c.in_ok-on-in-Some.ensures _
    (c.in_err-stay_reached-in-Some.ensures c.args.parts.line c.args.heads.now (sym e)))

pub pass_last-returns-in_err-flow-in-Alone : goal.pass_last-returns-in_err-flow-in-Alone
pass_last-returns-in_err-flow-in-Alone g t c =
    let o = (course g.K.AbstractStates.ops g.K.CheckedStates.first_outside (plan_of c.args.c.now) c.args.heads.now) in
    err_finds o _ c.from_residual.result _ c.args.taken.now _ c.from_residual.ensures.1
    (last_stops o c.args.here (loop_of c.args.parts) c.args.taken.now (mode_of c.args.mode) _
    (ways_view c.args.before) c.args.known _ (ap mode_of c.in-Alone.is) c.in_err-flow-in-Alone.ensures)

pub pass_list-returns-in_err-on : goal.pass_list-returns-in_err-on
pass_list-returns-in_err-on g t c =
    let o = (course g.K.AbstractStates.ops g.K.CheckedStates.first_outside (plan_of c.args.c.now) c.args.heads.now) in
    err_finds o _ c.from_residual.result _ c.args.taken.now _ c.from_residual.ensures.1
    (rows_stop o c.args.here (mode_of c.args.mode) c.args.body.now c.loop-s.s-index c.s-item.result c.loop-s.at
    (ways_view c.loop-s.ways) c.loop-s.taken c.args.taken.now _ c.loop-s-test.true c.s-item.is c.loop-s.invariant _
    c.in_err-on.ensures)

pub pass_list-returns-in_err-ways : goal.pass_list-returns-in_err-ways
pass_list-returns-in_err-ways g t c =
    err_finds (course g.K.AbstractStates.ops g.K.CheckedStates.first_outside
    (plan_of c.args.c.now) c.args.heads.now) _ c.from_residual-in_err-ways.result _ c.args.taken.now _
    c.from_residual-in_err-ways.ensures.1 tt

pub pass_lone-returns-in_err-flow-in-Together : goal.pass_lone-returns-in_err-flow-in-Together
pass_lone-returns-in_err-flow-in-Together g t c =
    let o = (course g.K.AbstractStates.ops g.K.CheckedStates.first_outside (plan_of c.args.c.now) c.args.heads.now) in
    err_finds o _ c.from_residual.result _ c.args.taken.now _ c.from_residual.ensures.1
    (lone_stops o c.args.here (loop_of c.args.parts) c.args.taken.now (mode_of c.args.mode)
    (side_of c.args.machine) c.args.known _ (ap mode_of c.in-Together.is) c.in_err-flow-in-Together.ensures)

pub pass_loop-returns-in_err-flow : goal.pass_loop-returns-in_err-flow
pass_loop-returns-in_err-flow g t c =
    let o = (course g.K.AbstractStates.ops g.K.CheckedStates.first_outside (plan_of c.args.c.now) c.args.heads.now) in
    err_finds o _ c.from_residual.result _ c.args.taken.now _ c.from_residual.ensures.1
    (left_stops o (rounds_of o c.args.here (loop_of c.args.parts)
    (mode_of c.args.mode) c.args.c.now.unroll c.args.taken.now c.args.known (ways_view c.none-ways.result)) _ _
    (loop_tests o c.args.here (loop_of c.args.parts) c.args.taken.now
    (mode_of c.args.mode) c.args.tests_first c.args.known
    (ways_view c.none-ways.result) c.if-tests_first.true c.none-ways.ensures) c.in_err-flow.ensures)

pub pass_loop-returns-in_err-flow-in-Together : goal.pass_loop-returns-in_err-flow-in-Together
pass_loop-returns-in_err-flow-in-Together g t c =
    let o = (course g.K.AbstractStates.ops g.K.CheckedStates.first_outside (plan_of c.args.c.now) c.args.heads.now) in
    err_finds o _ c.from_residual-in_err-flow-in-Together.result _ c.args.taken.now _
    c.from_residual-in_err-flow-in-Together.ensures.1 (left_stops o (begun_of o c.args.here (loop_of c.args.parts)
    c.args.taken.now (mode_of c.args.mode) c.saturating_sub-count.result c.args.known) _ _
    (loop_both o c.args.here (loop_of c.args.parts) c.args.taken.now (mode_of c.args.mode) c.args.tests_first
    c.args.known c.saturating_sub-count.result c.if-tests_first.false (ap mode_of c.in-Together.is)
    c.saturating_sub-count.ensures) c.in_err-flow-in-Together.ensures)

pub pass_loop-returns-in_err-flow-in-Alone : goal.pass_loop-returns-in_err-flow-in-Alone
pass_loop-returns-in_err-flow-in-Alone g t c =
    let o = (course g.K.AbstractStates.ops g.K.CheckedStates.first_outside (plan_of c.args.c.now) c.args.heads.now) in
    err_finds o _ c.from_residual-in_err-flow-in-Alone.result _ c.args.taken.now _
    c.from_residual-in_err-flow-in-Alone.ensures.1 (left_stops o (entered_of o c.args.here (loop_of c.args.parts)
    c.args.taken.now (side_of c.in-Alone.m) c.args.c.now.unroll c.args.known) _ _
    (loop_alone o c.args.here (loop_of c.args.parts) c.args.taken.now (mode_of c.args.mode) c.args.tests_first
    c.args.known _ c.if-tests_first.false (ap mode_of c.in-Alone.is)) c.in_err-flow-in-Alone.ensures)

pub pass_right-returns-in_err-flow : goal.pass_right-returns-in_err-flow
pass_right-returns-in_err-flow g t c =
    let o = (course g.K.AbstractStates.ops g.K.CheckedStates.first_outside (plan_of c.args.c.now) c.args.heads.now) in
    err_finds o _ c.from_residual.result _ c.args.taken.now _ c.from_residual.ensures.1
    (right_first o c.args.here (stmts_view c.args.second.now)
    (way_of_leaving c.args.by) c.args.line c.args.known c.args.before c.args.taken.now _ c.in_err-flow.ensures)

pub pass_right-returns-in_err-flow-2 : goal.pass_right-returns-in_err-flow-2
pass_right-returns-in_err-flow-2 g t c =
    let o = (course g.K.AbstractStates.ops g.K.CheckedStates.first_outside (plan_of c.args.c.now) c.args.heads.now) in
    err_finds o _ c.from_residual-in_err-flow-2.result _ c.args.taken.now _ c.from_residual-in_err-flow-2.ensures.1
    (right_second o c.args.here (stmts_view c.args.second.now)
    (way_of_leaving c.args.by) c.args.line c.args.known c.args.before c.args.taken.now c.in_ok-flow.flow _
    c.in_ok-flow.ensures _ (c.in_err-flow-2.ensures o c.args.taken.now))

pub pass_right-returns-in_err-whole : goal.pass_right-returns-in_err-whole
pass_right-returns-in_err-whole g t c =
    err_finds (course g.K.AbstractStates.ops g.K.CheckedStates.first_outside
    (plan_of c.args.c.now) c.args.heads.now) _ c.from_residual-in_err-whole.result _ c.args.taken.now _
    c.from_residual-in_err-whole.ensures.1 tt

pub pass_rounds-returns-in_err-on : goal.pass_rounds-returns-in_err-on
pass_rounds-returns-in_err-on g t c =
    let o = (course g.K.AbstractStates.ops g.K.CheckedStates.first_outside (plan_of c.args.c.now) c.args.heads.now) in
    err_finds o _ c.from_residual.result _ c.args.taken.now _ c.from_residual.ensures.1
    (turns_stop o c.args.here (loop_of c.args.parts)
    (mode_of c.args.mode) c.args.count c.loop-turn._turn c.loop-turn.at
    (ways_view c.loop-turn.ways) c.loop-turn.taken c.args.taken.now
    (rounds_of o c.args.here (loop_of c.args.parts)
    (mode_of c.args.mode) c.args.count c.args.taken.now c.args.known
    (ways_view c.args.before)) c.loop-turn.invariant c.loop-turn-test.true _ c.in_err-on.ensures)

pub pass_stmt-returns-in_err-inner-in-Scope : goal.pass_stmt-returns-in_err-inner-in-Scope
pass_stmt-returns-in_err-inner-in-Scope g t c =
    err_finds (course g.K.AbstractStates.ops g.K.CheckedStates.first_outside
    (plan_of c.args.c.now) c.args.heads.now) _ c.from_residual.result _ c.args.taken.now _ c.from_residual.ensures.1 tt

pub pass_stmt-returns-in_err-flow-in-Scope : goal.pass_stmt-returns-in_err-flow-in-Scope
pass_stmt-returns-in_err-flow-in-Scope g t c =
    let o = (course g.K.AbstractStates.ops g.K.CheckedStates.first_outside (plan_of c.args.c.now) c.args.heads.now) in
    err_finds o _ c.from_residual-in_err-flow-in-Scope.result _ c.args.taken.now _
    c.from_residual-in_err-flow-in-Scope.ensures.1 (scope_stops o c.args.here c.args.s.now.what c.args.taken.now
    (mode_of c.args.mode) c.args.s.now.line c.args.known c.args.taken.now c.args.taken.now c.in-Scope.blocks
    c.in-Scope.body c.deref-in-Scope.result.now c.deref-in-Scope-2.result.now c.in_ok-inner-in-Scope.inner
    c.in-Scope.is c.deref-in-Scope.ensures.value c.deref-in-Scope-2.ensures.value c.in_ok-inner-in-Scope.ensures _
    c.in_err-flow-in-Scope.ensures)

pub pass_stmt-returns-in_err-left-in-Scope : goal.pass_stmt-returns-in_err-left-in-Scope
pass_stmt-returns-in_err-left-in-Scope g t c =
    err_finds (course g.K.AbstractStates.ops g.K.CheckedStates.first_outside
    (plan_of c.args.c.now) c.args.heads.now) _ c.from_residual-in_err-left-in-Scope.result _ c.args.taken.now _
    c.from_residual-in_err-left-in-Scope.ensures.1 tt

pub pass_test-returns-in_err-truths : goal.pass_test-returns-in_err-truths
pass_test-returns-in_err-truths g t c =
    let o = (course g.K.AbstractStates.ops g.K.CheckedStates.first_outside (plan_of c.args.c.now) c.args.heads.now) in
    err_finds o _ c.from_residual.result _ c.args.taken.now _ c.from_residual.ensures.1
    (test_first o c.args.here (followed_of c.args.follow) c.args.taken.now (mode_of c.args.mode)
    (expr_view c.args.test.now) c.args.line (ways_view c.args.before) c.args.known _
    (c.in_err-truths.ensures c.args.heads.now))
