-- Loops and calls.
use Rattle.std.proofs.Common.{◌≡◌, refl, sym, ap, ◌+◌, ◌-◌, map, subst, arith, suc, if◌then◌else◌}
use Rattle.std.specs.Option.{option_map}
use Rattle.ep_int.proofs.Basics.{minus-zero}
use Rattle.ep_core.specs.View.{dest_view, expr_view, stmts_view, function_view}
use Rattle.ep_pass.specs.Pass.{branch, past}
use Rattle.ep_flows.specs.View.{mode_of, plan_of, side_of, ways_view}
use Rattle.ep_walk_parts.specs.Pieces.{loop_of}
use Rattle.ep_walk_parts.proofs.Deeper.{before_up, lone_rank, mode_rank}
use Rattle.ep_walk_parts.proofs.TypedParts.{call_typed, callee_is, callee_less, callee_none}
use Rattle.ep_certcheck_walk.specs.Pieces.{function, heads, rounds_of, row, turned}
use Rattle.ep_certcheck_walk.specs.Stops.{Finds, HasFound, course}
use Rattle.ep_certcheck_walk.proofs.Arms.{call_goes, call_is, calls_none}
use Rattle.ep_certcheck_walk.proofs.Rows.{turns_end, turns_last, turns_more}
use Rattle.ep_certcheck_walk.proofs.Turning.{begun_goes, begun_stops, body_found, entered_goes, entered_none}
use Rattle.ep_certcheck_walk.proofs.Turning.{given_found, given_none, last_alone, last_both, left_found, lone_none}
use Rattle.ep_certcheck_walk.proofs.Turning.{lone_ok, loop_alone, loop_both, loop_tests, turn_ok}
use Rattle.ep_certcheck_walk.proofs.statements.+walk.Goals as goal

pub pass_begun-pass_body-requires : goal.pass_begun-pass_body-requires
pass_begun-pass_body-requires g t c κs within =
    (omega arith, (within, c.requires))

pub pass_begun-pass_rounds-requires : goal.pass_begun-pass_rounds-requires
pass_begun-pass_rounds-requires g t c κs within =
    (omega arith, (within, c.requires))

pub pass_begun-returns-in-None : goal.pass_begun-returns-in-None
pass_begun-returns-in-None g t c =
    let o = (course g.K.AbstractStates.ops g.K.CheckedStates.first_outside (plan_of c.args.c.now) c.args.heads.now) in
    begun_stops o (turned o c.args.here (loop_of c.args.parts) c.args.taken.now
    (mode_of c.args.mode) c.args.known) _ c.in_ok-on.field-0 c.args.taken.now _ c.in_ok-on.ensures _ c.in-None.is refl
    refl

pub pass_begun-returns-in-Some : goal.pass_begun-returns-in-Some
pass_begun-returns-in-Some g t c =
    let o = (course g.K.AbstractStates.ops g.K.CheckedStates.first_outside (plan_of c.args.c.now) c.args.heads.now) in
    begun_goes o (turned o c.args.here (loop_of c.args.parts) c.args.taken.now (mode_of c.args.mode) c.args.known)
    (rounds_of o c.args.here (loop_of c.args.parts) (mode_of c.args.mode) c.args.count
    (past (heads o) c.args.taken.now
    (turned o c.args.here (loop_of c.args.parts) c.args.taken.now
    (mode_of c.args.mode) c.args.known))) c.in_ok-on.field-0 c.args.taken.now _ c.in_ok-on.ensures _
    c.pass_rounds.result c.pass_rounds.new.taken c.in-Some.is (subst (λ z. Finds o (rounds_of o c.args.here (loop_of
    c.args.parts) (mode_of c.args.mode) c.args.count z c.in-Some.next (ways_view c.in_ok-on.field-0.ways))
    c.pass_rounds.result c.pass_body.new.taken c.pass_rounds.new.taken) c.in_ok-on.ensures.log.taken
    c.pass_rounds.ensures)

pub pass_body-pass_list-requires : goal.pass_body-pass_list-requires
pass_body-pass_list-requires g t c κs within =
    (omega arith, (within, c.requires.body))

pub pass_body-pass_branch-requires : goal.pass_body-pass_branch-requires
pass_body-pass_branch-requires g t c κs within =
    (omega arith, (within, c.requires.next))

pub pass_body-returns : goal.pass_body-returns
pass_body-returns g t c =
    let o = (course g.K.AbstractStates.ops g.K.CheckedStates.first_outside (plan_of c.args.c.now) c.args.heads.now) in
    body_found o (row o c.args.here (stmts_view c.args.parts.body.now) c.args.taken.now
    (mode_of c.args.mode) c.args.known)
    (row o c.args.here (stmts_view c.args.parts.next.now)
    (past (heads o) c.args.taken.now
    (row o c.args.here (stmts_view c.args.parts.body.now) c.args.taken.now (mode_of c.args.mode) c.args.known))
    (mode_of c.args.mode)) c.in_ok-on.field-0 c.in_ok-ended.ended c.args.taken.now _ c.in_ok-on.ensures
    c.in_ok-ended.ensures c.in_ok-on-2.field-0 _ _ (subst (λ z. HasFound o (branch c.in_ok-ended.ended (row o c.args.here
    (stmts_view c.args.parts.next.now) z (mode_of c.args.mode))) c.in_ok-on-2.field-0 c.pass_list.new.taken
    c.pass_branch.new.taken) c.in_ok-on.ensures.log.taken c.in_ok-on-2.ensures) refl refl

pub pass_call-enter_call-requires : goal.pass_call-enter_call-requires
pass_call-enter_call-requires g t c =
    let e = rw c.in-Some.is at c.callee.ensures in
    (call_typed (plan_of c.args.c.now).program c.args.here c.args.k (map expr_view c.args.es.now)
    (option_map dest_view c.args.d.now) (function_view c.in-Some.f.now)
    (callee_is c.args.c.now.program.now c.args.k c.args.here c.in-Some.f.now (sym e)) c.requires).arguments

pub pass_call-pass_function-requires : goal.pass_call-pass_function-requires
pass_call-pass_function-requires g t c κs within =
    let e = rw c.in-Some.is at c.callee.ensures in
    let l = callee_less c.args.c.now.program.now c.args.k c.args.here c.in-Some.f.now (sym e) in
    let i = before_up c.args.c.now.program.now.functions.items (c.args.k + 1) c.args.here (omega (arith, l)) in
    (omega (arith, i), within)

pub pass_call-give_result-requires : goal.pass_call-give_result-requires
pass_call-give_result-requires g t c =
    let e = rw c.in-Some.is at c.callee.ensures in
    (call_typed (plan_of c.args.c.now).program c.args.here c.args.k (map expr_view c.args.es.now)
    (option_map dest_view c.args.d.now) (function_view c.in-Some.f.now)
    (callee_is c.args.c.now.program.now c.args.k c.args.here c.in-Some.f.now (sym e)) c.requires).result

pub pass_call-returns-in-None : goal.pass_call-returns-in-None
pass_call-returns-in-None g t c =
    let e = rw c.in-None.is at c.callee.ensures in
    calls_none (course g.K.AbstractStates.ops g.K.CheckedStates.first_outside
    (plan_of c.args.c.now) c.args.heads.now) c.args.here (mode_of c.args.mode) c.args.line c.args.k
    (map expr_view c.args.es.now) (option_map dest_view c.args.d.now) c.args.known c.args.taken.now c.none.result
    (callee_none c.args.c.now.program.now c.args.k c.args.here (sym e)) c.none.ensures.on c.none.ensures.ways

pub pass_call-returns-in_ok-left-in-Some : goal.pass_call-returns-in_ok-left-in-Some
pass_call-returns-in_ok-left-in-Some g t c =
    let o = (course g.K.AbstractStates.ops g.K.CheckedStates.first_outside (plan_of c.args.c.now) c.args.heads.now) in
    let e = rw c.in-Some.is at c.callee.ensures in
    let f = function_view c.in-Some.f.now in
    let is = callee_is c.args.c.now.program.now c.args.k c.args.here c.in-Some.f.now (sym e) in
    let less = callee_less c.args.c.now.program.now c.args.k c.args.here c.in-Some.f.now (sym e) in
    subst (λ z. Finds o z c.give_result.result c.args.taken.now c.pass_function.new.taken)
    (call_is o c.args.here (mode_of c.args.mode) c.args.line c.args.k (map expr_view c.args.es.now)
    (option_map dest_view c.args.d.now) c.args.known c.args.taken.now f is less)
    (call_goes o (mode_of c.args.mode) c.args.line f (map expr_view c.args.es.now)
    (option_map dest_view c.args.d.now)
    (function o c.args.k c.args.taken.now (mode_of c.args.mode)) c.args.known c.args.taken.now
    (c.in_ok-inner-in-Some.ensures c.args.heads.now).0 _ c.pass_function.new.taken c.in_ok-flow-in-Some.flow
    c.give_result.result c.in_ok-inner-in-Some.inner c.in_ok-left-in-Some.left (c.in_ok-inner-in-Some.ensures
    c.args.heads.now).1 c.in_ok-flow-in-Some.ensures c.in_ok-left-in-Some.ensures
    (c.give_result.ensures c.args.heads.now _))

pub pass_entered-returns-then-c-eq0 : goal.pass_entered-returns-then-c-eq0
pass_entered-returns-then-c-eq0 g t c =
    entered_none (course g.K.AbstractStates.ops g.K.CheckedStates.first_outside
    (plan_of c.args.c.now) c.args.heads.now) c.args.here (loop_of c.args.parts) c.args.taken.now
    (side_of c.args.machine) c.args.c.now.unroll c.args.known c.if-c-eq0.true

pub pass_entered-pass_begun-requires : goal.pass_entered-pass_begun-requires
pass_entered-pass_begun-requires g t c κs within =
    (omega arith, (within, c.requires))

pub pass_entered-returns : goal.pass_entered-returns
pass_entered-returns g t c =
    let e : c.args.c.now.unroll ≡ suc (c.args.c.now.unroll - 1) = omega (arith, c.if-c-eq0.false) in
    entered_goes (course g.K.AbstractStates.ops g.K.CheckedStates.first_outside
    (plan_of c.args.c.now) c.args.heads.now) c.args.here (loop_of c.args.parts) c.args.taken.now
    (side_of c.args.machine) c.args.c.now.unroll
    (c.args.c.now.unroll - 1) c.args.known c.pass_begun.result c.args.taken.now c.pass_begun.new.taken e
    c.pass_begun.ensures

pub pass_given-returns-in-None : goal.pass_given-returns-in-None
pass_given-returns-in-None g t c =
    let e = rw c.in-None.is at c.next_head.ensures.head in
    given_none (course g.K.AbstractStates.ops g.K.CheckedStates.first_outside
    (plan_of c.args.c.now) c.args.heads.now) c.args.here (loop_of c.args.parts) c.args.taken.now
    (ways_view c.args.before) c.args.known (sym e)

pub pass_given-pass_turn-requires : goal.pass_given-pass_turn-requires
pass_given-pass_turn-requires g t c κs within =
    (omega arith, (within, c.requires))

pub pass_given-returns-in_ok-stay_reached-in-Some : goal.pass_given-returns-in_ok-stay_reached-in-Some
pass_given-returns-in_ok-stay_reached-in-Some g t c =
    let e = rw c.in-Some.is at c.next_head.ensures.head in
    let k = rw c.in-Some.is at c.next_head.ensures.taken in
    given_found (course g.K.AbstractStates.ops g.K.CheckedStates.first_outside
    (plan_of c.args.c.now) c.args.heads.now) c.args.here (loop_of c.args.parts) c.args.taken.now
    (ways_view c.args.before) c.args.known c.in-Some.head.now (sym e)
    (c.in_ok-stay_within-in-Some.ensures c.args.parts.line c.args.heads.now
    (sym e)).0 c.next_head.new.taken c.in_ok-copy-in-Some.copy k c.in_ok-copy-in-Some.ensures
    c.in_ok-on-in-Some.field-0 _ c.in_ok-on-in-Some.ensures _ (c.in_ok-stay_reached-in-Some.ensures c.args.parts.line
    c.args.heads.now (sym e)).0 refl refl

pub pass_last-pass_test-requires : goal.pass_last-pass_test-requires
pass_last-pass_test-requires g t c κs within =
    (omega arith, (within, (c.requires.test, tt)))

pub pass_last-pass_given-requires : goal.pass_last-pass_given-requires
pass_last-pass_given-requires g t c κs within =
    let i = ap mode_rank c.in-Together.is in
    (omega (arith, i), (within, c.requires))

pub pass_last-returns-in_ok-flow-in-Alone : goal.pass_last-returns-in_ok-flow-in-Alone
pass_last-returns-in_ok-flow-in-Alone g t c =
    last_alone (course g.K.AbstractStates.ops g.K.CheckedStates.first_outside
    (plan_of c.args.c.now) c.args.heads.now) c.args.here (loop_of c.args.parts) c.args.taken.now
    (mode_of c.args.mode) _ (ways_view c.args.before) c.args.known c.in_ok-flow-in-Alone.flow _ c.args.taken.now _
    (ap mode_of c.in-Alone.is) c.in_ok-flow-in-Alone.ensures refl refl

pub pass_last-returns-in-Together : goal.pass_last-returns-in-Together
pass_last-returns-in-Together g t c =
    last_both (course g.K.AbstractStates.ops g.K.CheckedStates.first_outside
    (plan_of c.args.c.now) c.args.heads.now) c.args.here (loop_of c.args.parts) c.args.taken.now
    (mode_of c.args.mode) (ways_view c.args.before) c.args.known c.pass_given.result c.args.taken.now
    c.pass_given.new.taken (ap mode_of c.in-Together.is) c.pass_given.ensures

pub pass_lone-pass_entered-requires : goal.pass_lone-pass_entered-requires
pass_lone-pass_entered-requires g t c κs within =
    let i = ap lone_rank c.in-Together.is in
    (omega (arith, i), (within, c.requires))

pub pass_lone-returns-in-Alone : goal.pass_lone-returns-in-Alone
pass_lone-returns-in-Alone g t c =
    lone_none (course g.K.AbstractStates.ops g.K.CheckedStates.first_outside
    (plan_of c.args.c.now) c.args.heads.now) c.args.here (loop_of c.args.parts) c.args.taken.now
    (mode_of c.args.mode) _ (side_of c.args.machine) c.args.known c.none.result c.args.taken.now
    (ap mode_of c.in-Alone.is) c.none.ensures.on c.none.ensures.ways

pub pass_lone-returns-in_ok-flow-in-Together : goal.pass_lone-returns-in_ok-flow-in-Together
pass_lone-returns-in_ok-flow-in-Together g t c =
    let o = (course g.K.AbstractStates.ops g.K.CheckedStates.first_outside (plan_of c.args.c.now) c.args.heads.now) in
    lone_ok o c.args.here (loop_of c.args.parts) c.args.taken.now (mode_of c.args.mode)
    (side_of c.args.machine) c.args.known c.in_ok-flow-in-Together.flow c.come_after.result c.args.taken.now
    c.pass_entered.new.taken _ (ap mode_of c.in-Together.is) c.in_ok-flow-in-Together.ensures (c.come_after.ensures o _)

pub pass_loop-pass_rounds-requires : goal.pass_loop-pass_rounds-requires
pass_loop-pass_rounds-requires g t c κs within =
    (omega arith, (within, c.requires))

pub pass_loop-pass_begun-requires : goal.pass_loop-pass_begun-requires
pass_loop-pass_begun-requires g t c κs within =
    (omega arith, (within, c.requires))

pub pass_loop-pass_entered-requires : goal.pass_loop-pass_entered-requires
pass_loop-pass_entered-requires g t c κs within =
    (omega arith, (within, c.requires))

pub pass_loop-returns-then-tests_first : goal.pass_loop-returns-then-tests_first
pass_loop-returns-then-tests_first g t c =
    let o = (course g.K.AbstractStates.ops g.K.CheckedStates.first_outside (plan_of c.args.c.now) c.args.heads.now) in
    left_found o _ _ c.in_ok-flow.flow c.end_loop.result c.args.taken.now _
    (loop_tests o c.args.here (loop_of c.args.parts) c.args.taken.now
    (mode_of c.args.mode) c.args.tests_first c.args.known
    (ways_view c.none-ways.result) c.if-tests_first.true c.none-ways.ensures) c.in_ok-flow.ensures
    c.end_loop.ensures.on c.end_loop.ensures.ways

pub pass_loop-returns-in_ok-flow-in-Together : goal.pass_loop-returns-in_ok-flow-in-Together
pass_loop-returns-in_ok-flow-in-Together g t c =
    let o = (course g.K.AbstractStates.ops g.K.CheckedStates.first_outside (plan_of c.args.c.now) c.args.heads.now) in
    left_found o _ _ c.in_ok-flow-in-Together.flow c.end_loop-in-Together.result c.args.taken.now _
    (loop_both o c.args.here (loop_of c.args.parts) c.args.taken.now
    (mode_of c.args.mode) c.args.tests_first c.args.known c.saturating_sub-count.result c.if-tests_first.false
    (ap mode_of c.in-Together.is) c.saturating_sub-count.ensures) c.in_ok-flow-in-Together.ensures
    c.end_loop-in-Together.ensures.on c.end_loop-in-Together.ensures.ways

pub pass_loop-returns-in_ok-flow-in-Alone : goal.pass_loop-returns-in_ok-flow-in-Alone
pass_loop-returns-in_ok-flow-in-Alone g t c =
    let o = (course g.K.AbstractStates.ops g.K.CheckedStates.first_outside (plan_of c.args.c.now) c.args.heads.now) in
    left_found o _ _ c.in_ok-flow-in-Alone.flow c.end_loop-in-Alone.result c.args.taken.now _
    (loop_alone o c.args.here (loop_of c.args.parts) c.args.taken.now
    (mode_of c.args.mode) c.args.tests_first c.args.known _ c.if-tests_first.false
    (ap mode_of c.in-Alone.is)) c.in_ok-flow-in-Alone.ensures c.end_loop-in-Alone.ensures.on
    c.end_loop-in-Alone.ensures.ways

pub pass_rounds-loop-turn-init : goal.pass_rounds-loop-turn-init
pass_rounds-loop-turn-init g t c =
    let o = (course g.K.AbstractStates.ops g.K.CheckedStates.first_outside (plan_of c.args.c.now) c.args.heads.now) in
    λ x new h. subst (λ k. Finds o
    (rounds_of o c.args.here (loop_of c.args.parts) (mode_of c.args.mode) k c.args.taken.now c.args.known
    (ways_view c.args.before)) x c.args.taken.now new) (minus-zero c.args.count) h

pub pass_rounds-pass_turn-requires : goal.pass_rounds-pass_turn-requires
pass_rounds-pass_turn-requires g t c κs within =
    (omega arith, (within, c.requires))

pub pass_rounds-pass_last-requires : goal.pass_rounds-pass_last-requires
pass_rounds-pass_last-requires g t c κs within =
    (omega arith, (within, c.requires))

pub pass_rounds-returns-in-None : goal.pass_rounds-returns-in-None
pass_rounds-returns-in-None g t c =
    let o = (course g.K.AbstractStates.ops g.K.CheckedStates.first_outside (plan_of c.args.c.now) c.args.heads.now) in
    turns_end o c.args.here (loop_of c.args.parts) (mode_of c.args.mode) c.args.count c.loop-turn._turn c.loop-turn.at
    (ways_view c.loop-turn.ways) c.loop-turn.taken c.args.taken.now
    (rounds_of o c.args.here (loop_of c.args.parts)
    (mode_of c.args.mode) c.args.count c.args.taken.now c.args.known
    (ways_view c.args.before)) c.loop-turn.invariant c.loop-turn-test.true c.in_ok-on.field-0 _ c.pass_turn.new.taken
    c.in_ok-on.ensures c.in-None.is refl refl

pub pass_rounds-loop-turn-preserved : goal.pass_rounds-loop-turn-preserved
pass_rounds-loop-turn-preserved g t c =
    let o = (course g.K.AbstractStates.ops g.K.CheckedStates.first_outside (plan_of c.args.c.now) c.args.heads.now) in
    turns_more o c.args.here (loop_of c.args.parts)
    (mode_of c.args.mode) c.args.count c.loop-turn._turn c.loop-turn.at
    (ways_view c.loop-turn.ways) c.loop-turn.taken c.args.taken.now
    (rounds_of o c.args.here (loop_of c.args.parts)
    (mode_of c.args.mode) c.args.count c.args.taken.now c.args.known
    (ways_view c.args.before)) c.loop-turn.invariant c.loop-turn-test.true c.in_ok-on.field-0 c.pass_turn.new.taken
    c.in-Some.next (ways_view c.in_ok-on.field-0.ways) c.in_ok-on.ensures c.in-Some.is refl

pub pass_rounds-returns : goal.pass_rounds-returns
pass_rounds-returns g t c =
    let o = (course g.K.AbstractStates.ops g.K.CheckedStates.first_outside (plan_of c.args.c.now) c.args.heads.now) in
    turns_last o c.args.here (loop_of c.args.parts)
    (mode_of c.args.mode) c.args.count c.loop-turn._turn c.loop-turn.at
    (ways_view c.loop-turn.ways) c.loop-turn.taken c.args.taken.now
    (rounds_of o c.args.here (loop_of c.args.parts)
    (mode_of c.args.mode) c.args.count c.args.taken.now c.args.known
    (ways_view c.args.before)) c.loop-turn.invariant c.loop-turn-test.false c.pass_last.result c.pass_last.new.taken
    c.pass_last.ensures

pub pass_turn-pass_test-requires : goal.pass_turn-pass_test-requires
pass_turn-pass_test-requires g t c κs within =
    (omega arith, (within, (c.requires.test, c.requires)))

pub pass_turn-returns : goal.pass_turn-returns
pass_turn-returns g t c =
    turn_ok (course g.K.AbstractStates.ops g.K.CheckedStates.first_outside
    (plan_of c.args.c.now) c.args.heads.now) c.args.here (loop_of c.args.parts) c.args.taken.now
    (mode_of c.args.mode) (ways_view c.args.before) c.args.known c.pass_test.result c.args.taken.now
    c.pass_test.new.taken c.pass_test.ensures
