-- Arms, calls and loops.
use Rattle.std.proofs.Common.{◌≡◌, ◌+◌, ◌*◌, refl, sym, ap, ◌-◌, map, subst, arith}
use Rattle.ep_flows.proofs.Basics.{capped-told}
use Rattle.ep_int.proofs.Basics.{minus-zero}
use Rattle.std.specs.Option.{option_map}
use Rattle.ep_core.specs.View.{dest_view, expr_view, stmts_view, function_view}
use Rattle.ep_flows.specs.View.{HasPassed, mode_of, plan_of, side_of, ways_view}
use Rattle.ep_flows.proofs.Combined.{tells_at}
use Rattle.ep_walk_parts.specs.Pieces.{function, last_of, loop_of, o, row, rounds_of, turn_of}
use Rattle.ep_walk_parts.proofs.Arms.{body_passes, call_goes, calls_none, calls_some}
use Rattle.ep_walk_parts.proofs.Deeper.{before_up, lone_rank, mode_rank}
use Rattle.ep_walk_parts.proofs.Heading.{heads_begin, heads_kept, heads_last, heads_next, round_left}
use Rattle.ep_walk_parts.proofs.Rows.{turns_all, turns_end, turns_more}
use Rattle.ep_walk_parts.proofs.Turning.{last_alone, last_both, lone_none, lone_ok, loop_alone, loop_both, loop_tests}
use Rattle.ep_walk_parts.proofs.Turning.{turn_ok}
use Rattle.ep_walk_parts.proofs.TypedParts.{call_typed, callee_is, callee_less, callee_none}
use Rattle.ep_statement_walk.proofs.statements.+walk.Goals as goal

pub pass_body-pass_list-requires : goal.pass_body-pass_list-requires
pass_body-pass_list-requires g t c κs within = (omega arith, (within, c.requires.body))

pub pass_body-pass_branch-requires : goal.pass_body-pass_branch-requires
pass_body-pass_branch-requires g t c κs within = (omega arith, (within, c.requires.next))

pub pass_body-returns : goal.pass_body-returns
pass_body-returns g t c =
    body_passes (o g.K.AbstractStates.ops (plan_of c.args.c.now)) _ (row g.K.AbstractStates.ops (plan_of
    c.args.c.now) c.args.here (stmts_view c.args.parts.next.now) (mode_of c.args.mode)) c.in_ok-on.field-0
    c.in_ok-on-2.field-0 _ _ _ _ _ c.in_ok-ended.ended c.turn.ensures c.in_ok-on.ensures c.in_ok-ended.ensures
    c.in_ok-on-2.ensures refl refl

pub pass_call-arguments-requires : goal.pass_call-arguments-requires
pass_call-arguments-requires g t c =
    let e = rw c.in-Some.is at c.callee.ensures in (call_typed (plan_of c.args.c.now).program c.args.here c.args.k
    (map expr_view c.args.es.now) (option_map dest_view c.args.d.now) (function_view c.in-Some.f.now)
    (callee_is c.args.c.now.program.now c.args.k c.args.here c.in-Some.f.now (sym e)) c.requires).arguments

pub pass_call-pass_function-requires : goal.pass_call-pass_function-requires
pass_call-pass_function-requires g t c κs within =
    let e = rw c.in-Some.is at c.callee.ensures in
    let l = callee_less c.args.c.now.program.now c.args.k c.args.here c.in-Some.f.now (sym e) in
    let i = before_up c.args.c.now.program.now.functions.items (c.args.k + 1) c.args.here (omega (arith, l)) in
    (omega (arith, i), within)

pub pass_call-give_result-requires : goal.pass_call-give_result-requires
pass_call-give_result-requires g t c =
    let e = rw c.in-Some.is at c.callee.ensures in (call_typed (plan_of c.args.c.now).program c.args.here c.args.k
    (map expr_view c.args.es.now) (option_map dest_view c.args.d.now) (function_view c.in-Some.f.now)
    (callee_is c.args.c.now.program.now c.args.k c.args.here c.in-Some.f.now (sym e)) c.requires).result

pub pass_call-returns-in-None : goal.pass_call-returns-in-None
pass_call-returns-in-None g t c =
    let e = rw c.in-None.is at c.callee.ensures in calls_none g.K.AbstractStates.ops (plan_of c.args.c.now)
    c.args.here (mode_of c.args.mode) c.args.line c.args.k (map expr_view c.args.es.now) (option_map dest_view
    c.args.d.now) c.args.known c.none.result c.args.log.now (callee_none c.args.c.now.program.now c.args.k
    c.args.here (sym e)) c.none.ensures.on c.none.ensures.ways

pub pass_call-returns-in_ok-left-in-Some : goal.pass_call-returns-in_ok-left-in-Some
pass_call-returns-in_ok-left-in-Some g t c =
    let e = rw c.in-Some.is at c.callee.ensures in
    let f = function_view c.in-Some.f.now in
    let is = callee_is c.args.c.now.program.now c.args.k c.args.here c.in-Some.f.now (sym e) in
    let less = callee_less c.args.c.now.program.now c.args.k c.args.here c.in-Some.f.now (sym e) in
    calls_some g.K.AbstractStates.ops (plan_of c.args.c.now) c.args.here (mode_of c.args.mode) c.args.line c.args.k
    (map expr_view c.args.es.now) (option_map dest_view c.args.d.now) c.args.known f c.give_result.result
    c.args.log.now c.give_result.new.log is less
    (call_goes (o g.K.AbstractStates.ops (plan_of c.args.c.now)) (mode_of c.args.mode) c.args.line f (map expr_view
    c.args.es.now) (option_map dest_view c.args.d.now) (function g.K.AbstractStates.ops (plan_of c.args.c.now)
    c.args.k (mode_of c.args.mode)) c.args.known c.args.log.now _ c.pass_function.new.log
    c.in_ok-flow-in-Some.flow
    (tells_at _ c.args.log.now _ _ (sym c.log.view_is) c.in_ok-inner-in-Some.ensures.faults refl refl)
    c.in_ok-inner-in-Some.inner c.in_ok-left-in-Some.left c.give_result.result c.give_result.new.log
    c.in_ok-inner-in-Some.ensures.next
    c.in_ok-flow-in-Some.ensures c.in_ok-left-in-Some.ensures c.give_result.ensures)

pub pass_heads-heads-init : goal.pass_heads-heads-init
pass_heads-heads-init g t c =
    let i = c.saturating_sub.type_inv in heads_begin g.K.AbstractStates.ops (plan_of c.args.c.now) c.args.here
    (loop_of c.args.parts) (ways_view c.args.before) c.in_ok-rounds.rounds c.args.known c.saturating_sub.result
    c.args.log.now (omega (arith, i)) c.saturating_sub.ensures c.in_ok-rounds.ensures.mark
    c.in_ok-rounds.ensures.left c.in_ok-rounds.ensures.since c.in_ok-rounds.ensures.counted

pub pass_heads-pass_turn-turn-requires : goal.pass_heads-pass_turn-turn-requires
pass_heads-pass_turn-turn-requires g t c κs within = (omega arith, (within, c.requires))

pub pass_heads-returns-in-None : goal.pass_heads-returns-in-None
pass_heads-returns-in-None g t c =
    heads_kept g.K.AbstractStates.ops (plan_of c.args.c.now) c.args.here (loop_of c.args.parts) (ways_view
    c.args.before) c.heads.rounds c.heads.head c.in_ok-flow.flow c.heads.log c.begun-found.result
    c.pass_turn-turn.new.log c.args.log.now _ (ways_view c.in_ok-kept.kept) c.in_ok-copy.copy c.in_ok-wider.field-0
    c.heads.invariant c.heads-test.true (record {
      alarms = c.begun-found.ensures.alarms;
      count = c.begun-found.ensures.count;
      heads = c.begun-found.ensures.heads;
    }) c.in_ok-kept.ensures c.in_ok-copy.ensures
    (rw c.in_ok-flow.was at c.pass_turn-turn.ensures) c.in_ok-wider.ensures c.count_more.new.self c.keep.new.self
    c.pass_turn-turn.new.log
    c.in-None.is refl c.count_more.ensures.alarms
    (capped-told _ _ _ _ c.found-in-heads.view_is c.count_more.ensures.count) c.count_more.ensures.heads
    c.in_ok-keep-in-None.ensures.alarms c.keep.ensures.count c.in_ok-keep-in-None.ensures.heads

pub pass_heads-heads-smaller-in_ok-rounds-in-Some : goal.pass_heads-heads-smaller-in_ok-rounds-in-Some
pass_heads-heads-smaller-in_ok-rounds-in-Some g t c =
    let i = round_left _ _ _ _ _ c.in_ok-rounds-in-Some.ensures.rounds in
    let e = c.tried.ensures.left in omega (arith, i, e, c.heads-test.true)

pub pass_heads-heads-preserved-in_ok-rounds-in-Some : goal.pass_heads-heads-preserved-in_ok-rounds-in-Some
pass_heads-heads-preserved-in_ok-rounds-in-Some g t c =
    heads_next g.K.AbstractStates.ops (plan_of c.args.c.now) c.args.here (loop_of c.args.parts) (ways_view
    c.args.before) c.heads.rounds c.heads.head c.in_ok-flow.flow c.heads.log c.begun-found.result
    c.pass_turn-turn.new.log c.args.log.now _ (ways_view c.in_ok-kept.kept) c.in_ok-copy.copy c.in_ok-wider.field-0
    c.heads.invariant c.heads-test.true (record {
      alarms = c.begun-found.ensures.alarms;
      count = c.begun-found.ensures.count;
      heads = c.begun-found.ensures.heads;
    }) c.in_ok-kept.ensures c.in_ok-copy.ensures
    (rw c.in_ok-flow.was at c.pass_turn-turn.ensures) c.in_ok-wider.ensures _ c.tried.result _
    c.count_more.new.self _ _
    c.rounds_known.ensures c.in-Some.is c.found-in-heads.view_is c.count_more.ensures.alarms
    c.count_more.ensures.count c.count_more.ensures.heads c.tried.ensures.mark c.tried.ensures.left
    c.tried.ensures.since c.tried.ensures.counted c.in_ok-rounds-in-Some.ensures.rounds
    c.in_ok-rounds-in-Some.ensures.alarms c.in_ok-rounds-in-Some.ensures.heads

pub pass_heads-heads-smaller : goal.pass_heads-heads-smaller
pass_heads-heads-smaller g t c =
    let i = round_left _ _ _ _ _ c.in_ok-rounds-in-Some.ensures.rounds in
    let e = c.tried.ensures.left in omega (arith, i, e, c.heads-test.true)

pub pass_heads-heads-preserved : goal.pass_heads-heads-preserved
pass_heads-heads-preserved g t c =
    heads_next g.K.AbstractStates.ops (plan_of c.args.c.now) c.args.here (loop_of c.args.parts) (ways_view
    c.args.before) c.heads.rounds c.heads.head c.in_ok-flow.flow c.heads.log c.begun-found.result
    c.pass_turn-turn.new.log c.args.log.now _ (ways_view c.in_ok-kept.kept) c.in_ok-copy.copy c.in_ok-wider.field-0
    c.heads.invariant c.heads-test.true (record {
      alarms = c.begun-found.ensures.alarms;
      count = c.begun-found.ensures.count;
      heads = c.begun-found.ensures.heads;
    }) c.in_ok-kept.ensures c.in_ok-copy.ensures
    (rw c.in_ok-flow.was at c.pass_turn-turn.ensures) c.in_ok-wider.ensures _ c.tried.result _
    c.count_more.new.self _ _
    c.rounds_known.ensures c.in-Some.is c.found-in-heads.view_is c.count_more.ensures.alarms
    c.count_more.ensures.count c.count_more.ensures.heads c.tried.ensures.mark c.tried.ensures.left
    c.tried.ensures.since c.tried.ensures.counted c.in_ok-rounds-in-Some.ensures.rounds
    c.in_ok-rounds-in-Some.ensures.alarms c.in_ok-rounds-in-Some.ensures.heads

pub pass_heads-pass_turn-turn-requires-2 : goal.pass_heads-pass_turn-turn-requires-2
pass_heads-pass_turn-turn-requires-2 g t c κs within = (omega arith, (within, c.requires))

pub pass_heads-returns : goal.pass_heads-returns
pass_heads-returns g t c =
    heads_last g.K.AbstractStates.ops (plan_of c.args.c.now) c.args.here (loop_of c.args.parts) (ways_view
    c.args.before) c.heads.rounds c.heads.head c.in_ok-head.head c.in_ok-copy-2.copy c.in_ok-flow-2.flow
    c.heads.log c.begun-found-2.result c.pass_turn-turn-2.new.log c.count_more-2.new.self c.keep-2.new.self
    c.pass_turn-turn-2.new.log c.args.log.now _ (ways_view
    c.args.before) c.heads.invariant (omega (arith, c.heads-test.false)) (record {
      alarms = c.begun-found-2.ensures.alarms;
      count = c.begun-found-2.ensures.count;
      heads = c.begun-found-2.ensures.heads;
    }) refl c.in_ok-copy-2.ensures
    (rw c.in_ok-flow-2.was at c.pass_turn-turn-2.ensures) c.in_ok-head.ensures refl c.count_more-2.ensures.alarms
    (capped-told _ _ _ _ c.found-3.view_is c.count_more-2.ensures.count) c.count_more-2.ensures.heads
    c.in_ok-keep.ensures.alarms c.keep-2.ensures.count
    c.in_ok-keep.ensures.heads

pub pass_last-pass_test-requires : goal.pass_last-pass_test-requires
pass_last-pass_test-requires g t c κs within = (omega arith, (within, (c.requires.test, tt)))

pub pass_last-pass_heads-requires : goal.pass_last-pass_heads-requires
pass_last-pass_heads-requires g t c κs within =
    let i = ap mode_rank c.in-Together.is in
    (omega (arith, i), (within, c.requires))

pub pass_last-returns-in-Alone : goal.pass_last-returns-in-Alone
pass_last-returns-in-Alone g t c =
    last_alone g.K.AbstractStates.ops (plan_of c.args.c.now) c.args.here (loop_of c.args.parts) (mode_of c.args.mode)
    _ (ways_view c.args.before) c.args.known c.pass_test.result c.args.log.now c.pass_test.new.log (ap mode_of
    c.in-Alone.is) c.pass_test.ensures

pub pass_last-returns-in_ok-head-in-Together : goal.pass_last-returns-in_ok-head-in-Together
pass_last-returns-in_ok-head-in-Together g t c =
    last_both g.K.AbstractStates.ops (plan_of c.args.c.now) c.args.here (loop_of c.args.parts) (mode_of c.args.mode)
    (ways_view c.args.before) c.args.known c.in_ok-head-in-Together.head c.pass_heads.result c.args.log.now
    c.pass_heads.new.log (ap mode_of c.in-Together.is) c.in_ok-head-in-Together.ensures c.pass_heads.ensures

pub pass_lone-pass_entered-requires : goal.pass_lone-pass_entered-requires
pass_lone-pass_entered-requires g t c κs within =
    let i = ap lone_rank c.in-Together.is in
    (omega (arith, i), (within, c.requires))

pub pass_lone-returns-in-Alone : goal.pass_lone-returns-in-Alone
pass_lone-returns-in-Alone g t c =
    lone_none g.K.AbstractStates.ops (plan_of c.args.c.now) c.args.here (loop_of c.args.parts) (mode_of c.args.mode)
    _ (side_of c.args.machine) c.args.known c.none.result c.args.log.now (ap mode_of c.in-Alone.is)
    c.none.ensures.on c.none.ensures.ways

pub pass_lone-returns-in_ok-flow-in-Together : goal.pass_lone-returns-in_ok-flow-in-Together
pass_lone-returns-in_ok-flow-in-Together g t c =
    lone_ok g.K.AbstractStates.ops (plan_of c.args.c.now) c.args.here (loop_of c.args.parts) (mode_of c.args.mode)
    (side_of c.args.machine) c.args.known c.in_ok-flow-in-Together.flow c.come_after.result c.args.log.now
    c.pass_entered.new.log c.come_after.new.log (ap mode_of c.in-Together.is) c.in_ok-flow-in-Together.ensures
    c.come_after.ensures

pub pass_loop-pass_rounds-requires : goal.pass_loop-pass_rounds-requires
pass_loop-pass_rounds-requires g t c κs within = (omega arith, (within, c.requires))

pub pass_loop-returns-then-tests_first : goal.pass_loop-returns-then-tests_first
pass_loop-returns-then-tests_first g t c =
    loop_tests g.K.AbstractStates.ops (plan_of c.args.c.now) c.args.here (loop_of c.args.parts) (mode_of c.args.mode)
    c.args.tests_first c.args.known c.in_ok-flow.flow c.end_loop.result c.args.log.now c.pass_rounds.new.log
    c.end_loop.ensures.on c.end_loop.ensures.ways (ways_view c.none.result) c.if-tests_first.true c.none.ensures
    c.in_ok-flow.ensures

pub pass_loop-pass_begun-requires : goal.pass_loop-pass_begun-requires
pass_loop-pass_begun-requires g t c κs within = (omega arith, (within, c.requires))

pub pass_loop-pass_entered-requires : goal.pass_loop-pass_entered-requires
pass_loop-pass_entered-requires g t c κs within = (omega arith, (within, c.requires))

pub pass_loop-returns-in_ok-flow-in-Together : goal.pass_loop-returns-in_ok-flow-in-Together
pass_loop-returns-in_ok-flow-in-Together g t c =
    loop_both g.K.AbstractStates.ops (plan_of c.args.c.now) c.args.here (loop_of c.args.parts) (mode_of c.args.mode)
    c.args.tests_first c.args.known c.in_ok-flow-in-Together.flow c.end_loop-in-Together.result c.args.log.now
    c.pass_begun.new.log c.end_loop-in-Together.ensures.on c.end_loop-in-Together.ensures.ways
    c.saturating_sub-count.result c.if-tests_first.false (ap mode_of c.in-Together.is)
    c.saturating_sub-count.ensures c.in_ok-flow-in-Together.ensures

pub pass_loop-returns-in_ok-flow-in-Alone : goal.pass_loop-returns-in_ok-flow-in-Alone
pass_loop-returns-in_ok-flow-in-Alone g t c =
    loop_alone g.K.AbstractStates.ops (plan_of c.args.c.now) c.args.here (loop_of c.args.parts) (mode_of c.args.mode)
    c.args.tests_first c.args.known c.in_ok-flow-in-Alone.flow c.end_loop-in-Alone.result c.args.log.now
    c.pass_entered.new.log c.end_loop-in-Alone.ensures.on c.end_loop-in-Alone.ensures.ways _
    c.if-tests_first.false (ap mode_of c.in-Alone.is) c.in_ok-flow-in-Alone.ensures

pub pass_rounds-loop-turn-init : goal.pass_rounds-loop-turn-init
pass_rounds-loop-turn-init g t c =
    λ f new h. subst (λ k. HasPassed (rounds_of g.K.AbstractStates.ops (plan_of c.args.c.now) c.args.here (loop_of
    c.args.parts) (mode_of c.args.mode) k c.args.known (ways_view c.args.before)) f c.args.log.now new)
    (minus-zero c.args.count) h

pub pass_rounds-pass_turn-requires : goal.pass_rounds-pass_turn-requires
pass_rounds-pass_turn-requires g t c κs within = (omega arith, (within, c.requires))

pub pass_rounds-returns-in-None : goal.pass_rounds-returns-in-None
pass_rounds-returns-in-None g t c =
    turns_end (o g.K.AbstractStates.ops (plan_of c.args.c.now)) (turn_of g.K.AbstractStates.ops (plan_of
    c.args.c.now) c.args.here (loop_of c.args.parts) (mode_of c.args.mode)) (last_of g.K.AbstractStates.ops
    (plan_of c.args.c.now) c.args.here (loop_of c.args.parts) (mode_of c.args.mode)) c.args.count
    c.loop-turn._turn c.loop-turn.at (ways_view c.loop-turn.ways) c.in_ok-on.field-0 c.loop-turn.log
    c.pass_turn.new.log c.args.log.now (rounds_of g.K.AbstractStates.ops (plan_of c.args.c.now) c.args.here
    (loop_of c.args.parts) (mode_of c.args.mode) c.args.count c.args.known (ways_view c.args.before)) _
    c.loop-turn-test.true c.loop-turn.invariant c.in_ok-on.ensures c.in-None.is refl refl

pub pass_rounds-loop-turn-preserved : goal.pass_rounds-loop-turn-preserved
pass_rounds-loop-turn-preserved g t c =
    turns_more (o g.K.AbstractStates.ops (plan_of c.args.c.now)) (turn_of g.K.AbstractStates.ops (plan_of
    c.args.c.now) c.args.here (loop_of c.args.parts) (mode_of c.args.mode)) (last_of g.K.AbstractStates.ops
    (plan_of c.args.c.now) c.args.here (loop_of c.args.parts) (mode_of c.args.mode)) c.args.count
    c.loop-turn._turn c.loop-turn.at (ways_view c.loop-turn.ways) c.in_ok-on.field-0 c.loop-turn.log
    c.pass_turn.new.log c.args.log.now (rounds_of g.K.AbstractStates.ops (plan_of c.args.c.now) c.args.here
    (loop_of c.args.parts) (mode_of c.args.mode) c.args.count c.args.known (ways_view c.args.before))
    c.in-Some.next (ways_view c.in_ok-on.field-0.ways) c.loop-turn-test.true c.loop-turn.invariant
    c.in_ok-on.ensures c.in-Some.is refl

pub pass_rounds-pass_last-requires : goal.pass_rounds-pass_last-requires
pass_rounds-pass_last-requires g t c κs within = (omega arith, (within, c.requires))

pub pass_rounds-returns : goal.pass_rounds-returns
pass_rounds-returns g t c =
    turns_all (o g.K.AbstractStates.ops (plan_of c.args.c.now)) (turn_of g.K.AbstractStates.ops (plan_of
    c.args.c.now) c.args.here (loop_of c.args.parts) (mode_of c.args.mode)) (last_of g.K.AbstractStates.ops
    (plan_of c.args.c.now) c.args.here (loop_of c.args.parts) (mode_of c.args.mode)) c.args.count
    c.loop-turn._turn c.loop-turn.at (ways_view c.loop-turn.ways) c.in_ok-ways.field-0 c.loop-turn.log
    c.pass_last.new.log c.args.log.now (rounds_of g.K.AbstractStates.ops (plan_of c.args.c.now) c.args.here
    (loop_of c.args.parts) (mode_of c.args.mode) c.args.count c.args.known (ways_view c.args.before)) _
    c.loop-turn-test.false c.loop-turn.invariant c.in_ok-ways.ensures refl refl

pub pass_turn-pass_test-requires : goal.pass_turn-pass_test-requires
pass_turn-pass_test-requires g t c κs within = (omega arith, (within, (c.requires.test, c.requires)))

pub pass_turn-returns : goal.pass_turn-returns
pass_turn-returns g t c =
    turn_ok g.K.AbstractStates.ops (plan_of c.args.c.now) c.args.here (loop_of c.args.parts) (mode_of c.args.mode)
    (ways_view c.args.before) c.args.known c.pass_test.result c.args.log.now c.pass_test.new.log
    c.pass_test.ensures
