use Rattle.std.proofs.Common.{◌≡◌, refl, sym, ap, ◌∙◌, ◌-◌, subst, arith, true, false, suc, if◌then◌else◌}
use Rattle.ep_core.specs.Exec.{is_order}
use Rattle.ep_core.specs.Runs.{right}
use Rattle.ep_core.specs.View.{expr_view, stmts_view, function_view}
use Rattle.ep_pass.specs.States.{Both, One}
use Rattle.ep_pass.specs.Pass.{agreed, either_pass, branch}
use Rattle.ep_flows.specs.View.{HasPassed, Passes, mode_of, plan_of, side_of, ways_view, flow_view}
use Rattle.ep_flows.proofs.Combined.{either_ok, first_passed, step_ok, step_passed, tells_at}
use Rattle.ep_walk_parts.specs.Pieces.{all, followed, followed_of, loop_of, o, row, rounds_of, turned}
use Rattle.ep_walk_parts.specs.Typed.{FollowIsTyped}
use Rattle.ep_walk_parts.proofs.Arms.{call_passes, function_none, function_some, if_passes, loop_passes, order_passes}
use Rattle.ep_walk_parts.proofs.Arms.{parted_ok, scope_passes, test_alone, test_both, test_same, test_stuck}
use Rattle.ep_walk_parts.proofs.Deeper.{before_after, deeper_if, deeper_item, deeper_loop, deeper_order, deeper_scope}
use Rattle.ep_walk_parts.proofs.Deeper.{depth, depth_follow, lone_less, mode_rank, rank_small, some_size}
use Rattle.ep_walk_parts.proofs.Orders.{arm_depth, order_alone, order_both}
use Rattle.ep_walk_parts.proofs.Rows.{rows_all, rows_end, rows_more}
use Rattle.ep_walk_parts.proofs.Turning.{begun_goes, begun_stops, branch_ok, entered_goes, entered_none, follow_ok}
use Rattle.ep_walk_parts.proofs.TypedParts.{arm_typed, function_typed, if_typed, is_at, is_none, item_typed}
use Rattle.ep_walk_parts.proofs.TypedParts.{loop_typed, order_typed, scope_typed, stmt_typed}
use Rattle.ep_statement_walk.proofs.statements.+walk.Goals as goal
use Rattle.ep_statement_walk.proofs.statements.+walk.Answers.Errors as errors
use Rattle.ep_statement_walk.proofs.statements.+walk.Answers.Loops as loops
mod Errors
mod Loops

pub follow_one-pass_list-requires : goal.follow_one-pass_list-requires
follow_one-pass_list-requires g t c κs within =
    let v = subst (λ z. FollowIsTyped (plan_of c.args.c.now).program c.args.here (followed_of z)) c.in-Arms.is
    c.requires in
    let i = ap depth_follow c.in-Arms.is in
    (omega (arith, i), (within, v.0))

pub follow_one-returns-in-true-true : goal.follow_one-returns-in-true-true
follow_one-returns-in-true-true g t c =
    follow_ok g.K.AbstractStates.ops (plan_of c.args.c.now) c.args.here _ (followed_of c.args.follow) (mode_of
    c.args.mode) true true c.args.on_left c.args.on_right c.args.known c.pass_list.result c.args.log.now
    c.pass_list.new.log (ap followed_of c.in-Arms.is) c.in-true-true.is-0 c.in-true-true.is-1 c.pass_list.ensures

pub follow_one-pass_apart-requires : goal.follow_one-pass_apart-requires
follow_one-pass_apart-requires g t c κs within =
    let v = subst (λ z. FollowIsTyped (plan_of c.args.c.now).program c.args.here (followed_of z)) c.in-Arms.is
    c.requires in
    let i = ap depth_follow c.in-Arms.is in
    (omega (arith, i), (within, v))

pub follow_one-returns-in-true-false : goal.follow_one-returns-in-true-false
follow_one-returns-in-true-false g t c =
    follow_ok g.K.AbstractStates.ops (plan_of c.args.c.now) c.args.here _ (followed_of c.args.follow) (mode_of
    c.args.mode) true false c.args.on_left c.args.on_right c.args.known c.pass_apart.result c.args.log.now
    c.pass_apart.new.log (ap followed_of c.in-Arms.is) c.in-true-false.is-0 c.in-true-false.is-1
    c.pass_apart.ensures

pub follow_one-pass_apart-requires-in-false-true : goal.follow_one-pass_apart-requires-in-false-true
follow_one-pass_apart-requires-in-false-true g t c κs within =
    let v = subst (λ z. FollowIsTyped (plan_of c.args.c.now).program c.args.here (followed_of z)) c.in-Arms.is
    c.requires in
    let i = ap depth_follow c.in-Arms.is in
    (omega (arith, i), (within, (v.1, v.0)))

pub follow_one-returns-in-false-true : goal.follow_one-returns-in-false-true
follow_one-returns-in-false-true g t c =
    follow_ok g.K.AbstractStates.ops (plan_of c.args.c.now) c.args.here _ (followed_of c.args.follow) (mode_of
    c.args.mode) false true c.args.on_left c.args.on_right c.args.known c.pass_apart-in-false-true.result
    c.args.log.now c.pass_apart-in-false-true.new.log (ap followed_of c.in-Arms.is) c.in-false-true.is-0
    c.in-false-true.is-1 c.pass_apart-in-false-true.ensures

pub follow_one-pass_list-requires-in-false-false : goal.follow_one-pass_list-requires-in-false-false
follow_one-pass_list-requires-in-false-false g t c κs within =
    let v = subst (λ z. FollowIsTyped (plan_of c.args.c.now).program c.args.here (followed_of z)) c.in-Arms.is
    c.requires in
    let i = ap depth_follow c.in-Arms.is in
    (omega (arith, i), (within, v.1))

pub follow_one-returns-in-Arms : goal.follow_one-returns-in-Arms
follow_one-returns-in-Arms g t c =
    follow_ok g.K.AbstractStates.ops (plan_of c.args.c.now) c.args.here _ (followed_of c.args.follow) (mode_of
    c.args.mode) false false c.args.on_left c.args.on_right c.args.known c.pass_list-in-false-false.result
    c.args.log.now c.pass_list-in-false-false.new.log (ap followed_of c.in-Arms.is) c.in-false-false.is-0
    c.in-false-false.is-1 c.pass_list-in-false-false.ensures

pub follow_one-pass_body-requires : goal.follow_one-pass_body-requires
follow_one-pass_body-requires g t c κs within =
    let v = subst (λ z. FollowIsTyped (plan_of c.args.c.now).program c.args.here (followed_of z)) c.in-Turn.is
    c.requires in
    let i = ap depth_follow c.in-Turn.is in
    (omega (arith, i), (within, v))

pub follow_one-returns-in-true-true-2 : goal.follow_one-returns-in-true-true-2
follow_one-returns-in-true-true-2 g t c =
    follow_ok g.K.AbstractStates.ops (plan_of c.args.c.now) c.args.here _ (followed_of c.args.follow) (mode_of
    c.args.mode) true true c.args.on_left c.args.on_right c.args.known c.pass_body.result c.args.log.now
    c.pass_body.new.log (ap followed_of c.in-Turn.is) c.in-true-true-2.is-0 c.in-true-true-2.is-1
    c.pass_body.ensures

pub follow_one-pass_lone-requires : goal.follow_one-pass_lone-requires
follow_one-pass_lone-requires g t c κs within =
    let v = subst (λ z. FollowIsTyped (plan_of c.args.c.now).program c.args.here (followed_of z)) c.in-Turn.is
    c.requires in
    let i = ap depth_follow c.in-Turn.is in
    let j = lone_less c.args.mode in
    (omega (arith, i, j), (within, v))

pub follow_one-returns-in-true-false-2 : goal.follow_one-returns-in-true-false-2
follow_one-returns-in-true-false-2 g t c =
    follow_ok g.K.AbstractStates.ops (plan_of c.args.c.now) c.args.here _ (followed_of c.args.follow) (mode_of
    c.args.mode) true false c.args.on_left c.args.on_right c.args.known c.pass_lone.result c.args.log.now
    c.pass_lone.new.log (ap followed_of c.in-Turn.is) c.in-true-false-2.is-0 c.in-true-false-2.is-1
    c.pass_lone.ensures

pub follow_one-pass_lone-requires-in-false-true-2 : goal.follow_one-pass_lone-requires-in-false-true-2
follow_one-pass_lone-requires-in-false-true-2 g t c κs within =
    let v = subst (λ z. FollowIsTyped (plan_of c.args.c.now).program c.args.here (followed_of z)) c.in-Turn.is
    c.requires in
    let i = ap depth_follow c.in-Turn.is in
    let j = lone_less c.args.mode in
    (omega (arith, i, j), (within, v))

pub follow_one-returns-in-false-true-2 : goal.follow_one-returns-in-false-true-2
follow_one-returns-in-false-true-2 g t c =
    follow_ok g.K.AbstractStates.ops (plan_of c.args.c.now) c.args.here _ (followed_of c.args.follow) (mode_of
    c.args.mode) false true c.args.on_left c.args.on_right c.args.known c.pass_lone-in-false-true-2.result
    c.args.log.now c.pass_lone-in-false-true-2.new.log (ap followed_of c.in-Turn.is) c.in-false-true-2.is-0
    c.in-false-true-2.is-1 c.pass_lone-in-false-true-2.ensures

pub follow_reached-follow_one-requires : goal.follow_reached-follow_one-requires
follow_reached-follow_one-requires g t c κs within = (omega arith, (within, c.requires))

pub follow_reached-returns-in-Some : goal.follow_reached-returns-in-Some
follow_reached-returns-in-Some g t c =
    branch_ok c.args.known _ (followed g.K.AbstractStates.ops (plan_of c.args.c.now) c.args.here (followed_of
    c.args.follow) (mode_of c.args.mode) c.args.on_left c.args.on_right) c.follow_one.result c.args.log.now
    c.follow_one.new.log c.in-Some.is c.follow_one.ensures

pub follow_truths-follow_reached-requires : goal.follow_truths-follow_reached-requires
follow_truths-follow_reached-requires g t c κs within = (omega arith, (within, c.requires))

pub follow_truths-returns : goal.follow_truths-returns
follow_truths-returns g t c =
    either_ok (o g.K.AbstractStates.ops (plan_of c.args.c.now)) _ c.args.before c.in_ok-next.next c.either.result _ _
    c.in_ok-next.ensures c.either.ensures.on c.either.ensures.ways

pub pass_apart-pass_list-requires : goal.pass_apart-pass_list-requires
pass_apart-pass_list-requires g t c κs within = (omega arith, (within, c.requires.first))

pub pass_apart-pass_branch-requires : goal.pass_apart-pass_branch-requires
pass_apart-pass_branch-requires g t c κs within = (omega arith, (within, c.requires.second))

pub pass_apart-pass_branch-requires-2 : goal.pass_apart-pass_branch-requires-2
pass_apart-pass_branch-requires-2 g t c κs within = (omega arith, (within, c.requires.second))

pub pass_apart-pass_branch-requires-3 : goal.pass_apart-pass_branch-requires-3
pass_apart-pass_branch-requires-3 g t c κs within = (omega arith, (within, c.requires.second))

pub pass_apart-pass_branch-requires-4 : goal.pass_apart-pass_branch-requires-4
pass_apart-pass_branch-requires-4 g t c κs within = (omega arith, (within, c.requires.second))

pub pass_apart-returns : goal.pass_apart-returns
pass_apart-returns g t c =
    parted_ok (o g.K.AbstractStates.ops (plan_of c.args.c.now)) c.args.line _ (row g.K.AbstractStates.ops (plan_of
    c.args.c.now) c.args.here (stmts_view c.args.second.now) (One right)) c.in_ok-on.field-0 c.in_ok-flow.flow
    c.in_ok-flow-2.flow c.in_ok-flow-4.flow c.in_ok-flow-6.flow c.in_ok-whole.whole c.in_ok-flow-3.flow
    c.in_ok-flow-5.flow c.in_ok-flow-7.flow _ _ _ _ _ _ _ _ _ _ c.in_ok-whole-2.whole c.in_ok-whole-3.whole
    c.either-3.result c.in_ok-on.ensures c.in_ok-flow.ensures c.in_ok-whole.ensures c.in_ok-flow-2.ensures
    c.in_ok-flow-3.ensures c.in_ok-whole-2.ensures.on c.in_ok-whole-2.ensures.ways c.in_ok-flow-4.ensures
    c.in_ok-flow-5.ensures c.in_ok-whole-3.ensures.on c.in_ok-whole-3.ensures.ways c.in_ok-flow-6.ensures
    c.in_ok-flow-7.ensures c.either-3.ensures.on c.either-3.ensures.ways

pub pass_begun-pass_body-requires : goal.pass_begun-pass_body-requires
pass_begun-pass_body-requires g t c κs within = (omega arith, (within, c.requires))

pub pass_begun-pass_rounds-requires : goal.pass_begun-pass_rounds-requires
pass_begun-pass_rounds-requires g t c κs within = (omega arith, (within, c.requires))

pub pass_begun-returns-in-None : goal.pass_begun-returns-in-None
pass_begun-returns-in-None g t c =
    begun_stops (o g.K.AbstractStates.ops (plan_of c.args.c.now)) (turned g.K.AbstractStates.ops (plan_of
    c.args.c.now) c.args.here (loop_of c.args.parts) (mode_of c.args.mode) c.args.known) (rounds_of
    g.K.AbstractStates.ops (plan_of c.args.c.now) c.args.here (loop_of c.args.parts) (mode_of c.args.mode)
    c.args.count) c.in_ok-on.field-0 _ _ c.in_ok-on.ensures _ c.in-None.is refl refl

pub pass_begun-returns-in-Some : goal.pass_begun-returns-in-Some
pass_begun-returns-in-Some g t c =
    begun_goes (o g.K.AbstractStates.ops (plan_of c.args.c.now)) (turned g.K.AbstractStates.ops (plan_of
    c.args.c.now) c.args.here (loop_of c.args.parts) (mode_of c.args.mode) c.args.known) (rounds_of
    g.K.AbstractStates.ops (plan_of c.args.c.now) c.args.here (loop_of c.args.parts) (mode_of c.args.mode)
    c.args.count) c.in_ok-on.field-0 _ _ c.in_ok-on.ensures _ c.pass_rounds.result c.pass_rounds.new.log
    c.in-Some.is c.pass_rounds.ensures

pub pass_body-pass_list-requires : goal.pass_body-pass_list-requires
pass_body-pass_list-requires = loops.pass_body-pass_list-requires

pub pass_body-pass_branch-requires : goal.pass_body-pass_branch-requires
pass_body-pass_branch-requires = loops.pass_body-pass_branch-requires

pub pass_body-returns : goal.pass_body-returns
pass_body-returns = loops.pass_body-returns

pub pass_branch-pass_list-requires : goal.pass_branch-pass_list-requires
pass_branch-pass_list-requires g t c κs within = (omega arith, (within, c.requires))

pub pass_branch-returns-in-Some : goal.pass_branch-returns-in-Some
pass_branch-returns-in-Some g t c =
    branch_ok c.args.known _ (row g.K.AbstractStates.ops (plan_of c.args.c.now) c.args.here (stmts_view
    c.args.body.now) (mode_of c.args.mode)) c.pass_list.result c.args.log.now c.pass_list.new.log c.in-Some.is
    c.pass_list.ensures

pub pass_call-arguments-requires : goal.pass_call-arguments-requires
pass_call-arguments-requires = loops.pass_call-arguments-requires

pub pass_call-pass_function-requires : goal.pass_call-pass_function-requires
pass_call-pass_function-requires = loops.pass_call-pass_function-requires

pub pass_call-give_result-requires : goal.pass_call-give_result-requires
pass_call-give_result-requires = loops.pass_call-give_result-requires

pub pass_call-returns-in-None : goal.pass_call-returns-in-None
pass_call-returns-in-None = loops.pass_call-returns-in-None

pub pass_call-returns-in_ok-left-in-Some : goal.pass_call-returns-in_ok-left-in-Some
pass_call-returns-in_ok-left-in-Some = loops.pass_call-returns-in_ok-left-in-Some

pub pass_entered-returns-then-c-eq0 : goal.pass_entered-returns-then-c-eq0
pass_entered-returns-then-c-eq0 g t c =
    entered_none g.K.AbstractStates.ops (plan_of c.args.c.now) c.args.here (loop_of c.args.parts) (side_of
    c.args.machine) c.args.c.now.unroll c.args.known c.none.result c.args.log.now c.alarm.new.self
    c.if-c-eq0.true c.in_ok-alarm.ensures.told c.none.ensures.on c.none.ensures.ways

pub pass_entered-pass_begun-requires : goal.pass_entered-pass_begun-requires
pass_entered-pass_begun-requires g t c κs within = (omega arith, (within, c.requires))

pub pass_entered-returns : goal.pass_entered-returns
pass_entered-returns g t c =
    let e : c.args.c.now.unroll ≡ suc (c.args.c.now.unroll - 1) = omega (arith, c.if-c-eq0.false) in entered_goes
    g.K.AbstractStates.ops (plan_of c.args.c.now) c.args.here (loop_of c.args.parts) (side_of c.args.machine)
    c.args.c.now.unroll (c.args.c.now.unroll - 1) c.args.known c.pass_begun.result c.args.log.now
    c.pass_begun.new.log e c.pass_begun.ensures

pub pass_four-follow_truths-requires : goal.pass_four-follow_truths-requires
pass_four-follow_truths-requires g t c κs within = (omega arith, (within, c.requires.parts))

pub pass_four-follow_truths-requires-2 : goal.pass_four-follow_truths-requires-2
pass_four-follow_truths-requires-2 g t c κs within = (omega arith, (within, c.requires.parts))

pub pass_four-follow_truths-requires-3 : goal.pass_four-follow_truths-requires-3
pass_four-follow_truths-requires-3 g t c κs within = (omega arith, (within, c.requires.parts))

pub pass_four-follow_truths-requires-4 : goal.pass_four-follow_truths-requires-4
pass_four-follow_truths-requires-4 g t c κs within = (omega arith, (within, c.requires.parts))

pub pass_four-returns : goal.pass_four-returns
pass_four-returns g t c =
    step_ok (o g.K.AbstractStates.ops (plan_of c.args.c.now)) (either_pass (o g.K.AbstractStates.ops (plan_of
    c.args.c.now)) (either_pass (o g.K.AbstractStates.ops (plan_of c.args.c.now)) (either_pass (o
    g.K.AbstractStates.ops (plan_of c.args.c.now)) (flow_view c.args.before) (branch ((o g.K.AbstractStates.ops
    (plan_of c.args.c.now)).assume (expr_view c.args.test.now) true true c.args.known) (followed
    g.K.AbstractStates.ops (plan_of c.args.c.now) c.args.here (followed_of c.args.follow) Both true true)))
    (branch ((o g.K.AbstractStates.ops (plan_of c.args.c.now)).assume (expr_view c.args.test.now) true false
    c.args.known) (followed g.K.AbstractStates.ops (plan_of c.args.c.now) c.args.here (followed_of c.args.follow)
    Both true false))) (branch ((o g.K.AbstractStates.ops (plan_of c.args.c.now)).assume (expr_view
    c.args.test.now) false true c.args.known) (followed g.K.AbstractStates.ops (plan_of c.args.c.now) c.args.here
    (followed_of c.args.follow) Both false true))) _ _ (followed g.K.AbstractStates.ops (plan_of c.args.c.now)
    c.args.here (followed_of c.args.follow) Both false false) c.in_ok-flow-3.flow c.follow_truths-4.result _ _ _
    c.in_ok-neither.ensures (step_passed (o g.K.AbstractStates.ops (plan_of c.args.c.now)) (either_pass (o
    g.K.AbstractStates.ops (plan_of c.args.c.now)) (either_pass (o g.K.AbstractStates.ops (plan_of c.args.c.now))
    (flow_view c.args.before) (branch ((o g.K.AbstractStates.ops (plan_of c.args.c.now)).assume (expr_view
    c.args.test.now) true true c.args.known) (followed g.K.AbstractStates.ops (plan_of c.args.c.now) c.args.here
    (followed_of c.args.follow) Both true true))) (branch ((o g.K.AbstractStates.ops (plan_of
    c.args.c.now)).assume (expr_view c.args.test.now) true false c.args.known) (followed g.K.AbstractStates.ops
    (plan_of c.args.c.now) c.args.here (followed_of c.args.follow) Both true false))) _ _ (followed
    g.K.AbstractStates.ops (plan_of c.args.c.now) c.args.here (followed_of c.args.follow) Both false true)
    c.in_ok-flow-2.flow c.in_ok-flow-3.flow _ _ _ c.in_ok-right.ensures (step_passed (o g.K.AbstractStates.ops
    (plan_of c.args.c.now)) (either_pass (o g.K.AbstractStates.ops (plan_of c.args.c.now)) (flow_view
    c.args.before) (branch ((o g.K.AbstractStates.ops (plan_of c.args.c.now)).assume (expr_view c.args.test.now)
    true true c.args.known) (followed g.K.AbstractStates.ops (plan_of c.args.c.now) c.args.here (followed_of
    c.args.follow) Both true true))) _ _ (followed g.K.AbstractStates.ops (plan_of c.args.c.now) c.args.here
    (followed_of c.args.follow) Both true false) c.in_ok-flow.flow c.in_ok-flow-2.flow _ _ _ c.in_ok-left.ensures
    (first_passed (o g.K.AbstractStates.ops (plan_of c.args.c.now)) (flow_view c.args.before) _ _ (followed
    g.K.AbstractStates.ops (plan_of c.args.c.now) c.args.here (followed_of c.args.follow) Both true true)
    c.in_ok-flow.flow _ _ c.in_ok-both.ensures c.in_ok-flow.ensures) c.in_ok-flow-2.ensures)
    c.in_ok-flow-3.ensures) c.follow_truths-4.ensures

pub pass_function-pass_list-requires : goal.pass_function-pass_list-requires
pass_function-pass_list-requires g t c κs within =
    let e = sym (rw c.in-Some-function_at.is at c.function_at.ensures) in
    let f = c.in-Some-function_at.f.now in
    let i = before_after c.args.c.now.program.now.functions.items c.args.k f e in
    let j = ap depth c.deref.ensures.value in
    let v = function_typed c.args.c.now.program.now c.args.k f c.deref.result.now e c.deref.ensures.value in
    (omega (arith, i, j), (within, v))

pub pass_function-returns-in-None-function_at : goal.pass_function-returns-in-None-function_at
pass_function-returns-in-None-function_at g t c =
    let e = sym (rw c.in-None-function_at.is at c.function_at.ensures) in function_none g.K.AbstractStates.ops
    (plan_of c.args.c.now) c.args.k (mode_of c.args.mode) c.args.known c.in-Some.known c.on.result c.args.log.now
    (is_none c.args.c.now.program.now c.args.k e) c.in-Some.is c.on.ensures.on c.on.ensures.ways

pub pass_function-returns-in-Some-function_at : goal.pass_function-returns-in-Some-function_at
pass_function-returns-in-Some-function_at g t c =
    let e = sym (rw c.in-Some-function_at.is at c.function_at.ensures) in
    let f = c.in-Some-function_at.f.now in
    function_some g.K.AbstractStates.ops (plan_of c.args.c.now) c.args.k (mode_of c.args.mode) c.args.known
    c.in-Some.known (function_view f) c.pass_list.result c.args.log.now c.pass_list.new.log (is_at
    c.args.c.now.program.now c.args.k f e) c.in-Some.is
    (subst (λ z. Passes (row g.K.AbstractStates.ops (plan_of c.args.c.now) c.args.k
    (stmts_view z) (mode_of c.args.mode) c.in-Some.known) c.pass_list.result c.args.log.now c.pass_list.new.log)
    c.deref.ensures.value c.pass_list.ensures)

pub pass_heads-heads-init : goal.pass_heads-heads-init
pass_heads-heads-init = loops.pass_heads-heads-init

pub pass_heads-pass_turn-turn-requires : goal.pass_heads-pass_turn-turn-requires
pass_heads-pass_turn-turn-requires = loops.pass_heads-pass_turn-turn-requires

pub pass_heads-returns-in-None : goal.pass_heads-returns-in-None
pass_heads-returns-in-None = loops.pass_heads-returns-in-None

pub pass_heads-heads-smaller-in_ok-rounds-in-Some : goal.pass_heads-heads-smaller-in_ok-rounds-in-Some
pass_heads-heads-smaller-in_ok-rounds-in-Some = loops.pass_heads-heads-smaller-in_ok-rounds-in-Some

pub pass_heads-heads-preserved-in_ok-rounds-in-Some : goal.pass_heads-heads-preserved-in_ok-rounds-in-Some
pass_heads-heads-preserved-in_ok-rounds-in-Some = loops.pass_heads-heads-preserved-in_ok-rounds-in-Some

pub pass_heads-heads-smaller : goal.pass_heads-heads-smaller
pass_heads-heads-smaller = loops.pass_heads-heads-smaller

pub pass_heads-heads-preserved : goal.pass_heads-heads-preserved
pass_heads-heads-preserved = loops.pass_heads-heads-preserved

pub pass_heads-pass_turn-turn-requires-2 : goal.pass_heads-pass_turn-turn-requires-2
pass_heads-pass_turn-turn-requires-2 = loops.pass_heads-pass_turn-turn-requires-2

pub pass_heads-returns : goal.pass_heads-returns
pass_heads-returns = loops.pass_heads-returns

pub pass_last-pass_test-requires : goal.pass_last-pass_test-requires
pass_last-pass_test-requires = loops.pass_last-pass_test-requires

pub pass_last-pass_heads-requires : goal.pass_last-pass_heads-requires
pass_last-pass_heads-requires = loops.pass_last-pass_heads-requires

pub pass_last-returns-in-Alone : goal.pass_last-returns-in-Alone
pass_last-returns-in-Alone = loops.pass_last-returns-in-Alone

pub pass_last-returns-in_ok-head-in-Together : goal.pass_last-returns-in_ok-head-in-Together
pass_last-returns-in_ok-head-in-Together = loops.pass_last-returns-in_ok-head-in-Together

pub pass_list-loop-s-init : goal.pass_list-loop-s-init
pass_list-loop-s-init g t c =
    λ f new h. subst (λ w. HasPassed (all g.K.AbstractStates.ops (plan_of c.args.c.now) c.args.here (stmts_view
    c.args.body.now) (mode_of c.args.mode) c.args.known w) f c.args.log.now new) c.none-ways.ensures h

pub pass_list-pass_stmt-requires : goal.pass_list-pass_stmt-requires
pass_list-pass_stmt-requires g t c κs within =
    let v = item_typed (plan_of c.args.c.now).program c.args.here c.args.body.now c.loop-s.s-index c.s-item.result
    c.loop-s-test.true c.s-item.is c.requires in
    let i = deeper_item c.args.body.now c.loop-s.s-index c.s-item.result c.loop-s-test.true c.s-item.is in
    (omega (arith, i), (within, v))

pub pass_list-returns-in-None : goal.pass_list-returns-in-None
pass_list-returns-in-None g t c =
    rows_end g.K.AbstractStates.ops (plan_of c.args.c.now) c.args.here (mode_of c.args.mode) c.args.body.now
    c.loop-s.s-index c.s-item.result c.loop-s.at (ways_view c.loop-s.ways) c.in_ok-on.field-0 c.loop-s.log
    c.pass_stmt.new.log c.args.log.now (ways_view c.in_ok-ways.ways) _ _ c.loop-s-test.true c.s-item.is
    c.loop-s.invariant c.in_ok-on.ensures c.in_ok-ways.ensures c.in-None.is refl refl

pub pass_list-loop-s-preserved : goal.pass_list-loop-s-preserved
pass_list-loop-s-preserved g t c =
    rows_more g.K.AbstractStates.ops (plan_of c.args.c.now) c.args.here (mode_of c.args.mode) c.args.body.now
    c.loop-s.s-index c.s-item.result c.loop-s.at (ways_view c.loop-s.ways) c.in_ok-on.field-0 c.loop-s.log
    c.pass_stmt.new.log c.args.log.now (ways_view c.in_ok-ways.ways) _ c.in-Some.next c.loop-s-test.true
    c.s-item.is c.loop-s.invariant c.in_ok-on.ensures c.in_ok-ways.ensures c.in-Some.is

pub pass_list-returns : goal.pass_list-returns
pass_list-returns g t c =
    rows_all g.K.AbstractStates.ops (plan_of c.args.c.now) c.args.here (mode_of c.args.mode) c.args.body.now
    c.loop-s.s-index c.loop-s.at (ways_view c.loop-s.ways) c.loop-s.log c.args.log.now _ _ c.loop-s-test.false
    c.loop-s.invariant refl refl

pub pass_lone-pass_entered-requires : goal.pass_lone-pass_entered-requires
pass_lone-pass_entered-requires = loops.pass_lone-pass_entered-requires

pub pass_lone-returns-in-Alone : goal.pass_lone-returns-in-Alone
pass_lone-returns-in-Alone = loops.pass_lone-returns-in-Alone

pub pass_lone-returns-in_ok-flow-in-Together : goal.pass_lone-returns-in_ok-flow-in-Together
pass_lone-returns-in_ok-flow-in-Together = loops.pass_lone-returns-in_ok-flow-in-Together

pub pass_loop-pass_rounds-requires : goal.pass_loop-pass_rounds-requires
pass_loop-pass_rounds-requires = loops.pass_loop-pass_rounds-requires

pub pass_loop-returns-then-tests_first : goal.pass_loop-returns-then-tests_first
pass_loop-returns-then-tests_first = loops.pass_loop-returns-then-tests_first

pub pass_loop-pass_begun-requires : goal.pass_loop-pass_begun-requires
pass_loop-pass_begun-requires = loops.pass_loop-pass_begun-requires

pub pass_loop-pass_entered-requires : goal.pass_loop-pass_entered-requires
pass_loop-pass_entered-requires = loops.pass_loop-pass_entered-requires

pub pass_loop-returns-in_ok-flow-in-Together : goal.pass_loop-returns-in_ok-flow-in-Together
pass_loop-returns-in_ok-flow-in-Together = loops.pass_loop-returns-in_ok-flow-in-Together

pub pass_loop-returns-in_ok-flow-in-Alone : goal.pass_loop-returns-in_ok-flow-in-Alone
pass_loop-returns-in_ok-flow-in-Alone = loops.pass_loop-returns-in_ok-flow-in-Alone

pub pass_order-pass_apart-requires : goal.pass_order-pass_apart-requires
pass_order-pass_apart-requires g t c κs within =
    let v = arm_typed (plan_of c.args.c.now).program c.args.here (is_order c.args.c.now.left c.args.named)
    c.args.yes.now c.args.no.now c.arm-on_left.result.now c.arm-on_left.ensures c.requires.first
    c.requires.second in
    let w = arm_typed (plan_of c.args.c.now).program c.args.here (is_order c.args.c.now.right c.args.named)
    c.args.yes.now c.args.no.now c.arm-on_right.result.now c.arm-on_right.ensures c.requires.first
    c.requires.second in
    let i = arm_depth (is_order c.args.c.now.left c.args.named) c.args.yes.now c.args.no.now c.arm-on_left.result.now
    c.arm-on_left.ensures in
    let j = arm_depth (is_order c.args.c.now.right c.args.named) c.args.yes.now c.args.no.now
    c.arm-on_right.result.now c.arm-on_right.ensures in
    (omega (arith, i, j), (within, (v, w)))

pub pass_order-pass_list-requires : goal.pass_order-pass_list-requires
pass_order-pass_list-requires g t c κs within =
    let i = arm_depth (is_order c.order_of.result c.args.named) c.args.yes.now c.args.no.now c.arm-own.result.now
    c.arm-own.ensures in
    let v = arm_typed (plan_of c.args.c.now).program c.args.here (is_order c.order_of.result c.args.named)
    c.args.yes.now c.args.no.now c.arm-own.result.now c.arm-own.ensures c.requires.first c.requires.second in
    (omega (arith, i), (within, v))

pub pass_order-returns-in-Together : goal.pass_order-returns-in-Together
pass_order-returns-in-Together g t c =
    order_both g.K.AbstractStates.ops (plan_of c.args.c.now) c.args.here c.args.yes.now c.args.no.now c.args.known
    c.pass_apart.result c.args.log.now c.pass_apart.new.log c.args.named c.args.line (mode_of c.args.mode)
    c.arm-on_left.result.now c.arm-on_right.result.now (ap mode_of c.in-Together.is) c.arm-on_left.ensures
    c.arm-on_right.ensures c.pass_apart.ensures

pub pass_order-returns-in-Alone : goal.pass_order-returns-in-Alone
pass_order-returns-in-Alone g t c =
    order_alone g.K.AbstractStates.ops (plan_of c.args.c.now) c.args.here c.args.yes.now c.args.no.now c.args.known
    c.pass_list.result c.args.log.now c.pass_list.new.log c.args.named c.args.line (mode_of c.args.mode) (side_of
    c.in-Alone.machine) c.arm-own.result.now (ap mode_of c.in-Alone.is) (c.arm-own.ensures ∙ ap (λ z. if is_order
    z c.args.named then c.args.yes.now else c.args.no.now) c.order_of.ensures) c.pass_list.ensures

pub pass_rounds-loop-turn-init : goal.pass_rounds-loop-turn-init
pass_rounds-loop-turn-init = loops.pass_rounds-loop-turn-init

pub pass_rounds-pass_turn-requires : goal.pass_rounds-pass_turn-requires
pass_rounds-pass_turn-requires = loops.pass_rounds-pass_turn-requires

pub pass_rounds-returns-in-None : goal.pass_rounds-returns-in-None
pass_rounds-returns-in-None = loops.pass_rounds-returns-in-None

pub pass_rounds-loop-turn-preserved : goal.pass_rounds-loop-turn-preserved
pass_rounds-loop-turn-preserved = loops.pass_rounds-loop-turn-preserved

pub pass_rounds-pass_last-requires : goal.pass_rounds-pass_last-requires
pass_rounds-pass_last-requires = loops.pass_rounds-pass_last-requires

pub pass_rounds-returns : goal.pass_rounds-returns
pass_rounds-returns = loops.pass_rounds-returns

pub pass_stmt-pass_call-requires : goal.pass_stmt-pass_call-requires
pass_stmt-pass_call-requires g t c κs within =
    let v = stmt_typed (plan_of c.args.c.now).program c.args.here c.args.s.now.what c.in-Call.k c.in-Call.es
    c.in-Call.d c.deref.result.now c.in-Call.is c.deref.ensures.value c.requires in
    let i = some_size c.args.s.now in
    (omega (arith, i), (within, v))

pub pass_stmt-pass_test-requires : goal.pass_stmt-pass_test-requires
pass_stmt-pass_test-requires g t c κs within =
    let i = deeper_if c.args.s.now c.in-If.test c.in-If.yes c.in-If.no c.deref-in-If.result.now
    c.deref-in-If-2.result.now c.in-If.is c.deref-in-If.ensures.value c.deref-in-If-2.ensures.value in
    let k = if_typed (plan_of c.args.c.now).program c.args.here c.args.s.now.what c.in-If.test c.in-If.yes c.in-If.no
    c.deref-in-If.result.now c.deref-in-If-2.result.now c.in-If.is c.deref-in-If.ensures.value
    c.deref-in-If-2.ensures.value c.requires in
    let j = rank_small c.args.mode in
    (omega (arith, i, j), (within, (k.test, (k.yes, k.other))))

pub pass_stmt-pass_loop-requires : goal.pass_stmt-pass_loop-requires
pass_stmt-pass_loop-requires g t c κs within =
    let v = loop_typed (plan_of c.args.c.now).program c.args.here c.args.s.now.what c.in-Loop.tests_first
    c.args.s.now.line c.in-Loop.test c.in-Loop.body c.in-Loop.next c.deref-in-Loop.result.now
    c.deref-in-Loop-2.result.now c.in-Loop.is c.deref-in-Loop.ensures.value c.deref-in-Loop-2.ensures.value
    c.requires in
    let i = deeper_loop c.args.s.now c.in-Loop.tests_first c.in-Loop.test c.in-Loop.body c.in-Loop.next
    c.deref-in-Loop.result.now c.deref-in-Loop-2.result.now c.in-Loop.is c.deref-in-Loop.ensures.value
    c.deref-in-Loop-2.ensures.value in
    let j = rank_small c.args.mode in
    (omega (arith, i, j), (within, v))

pub pass_stmt-pass_order-requires : goal.pass_stmt-pass_order-requires
pass_stmt-pass_order-requires g t c κs within =
    let v = order_typed (plan_of c.args.c.now).program c.args.here c.args.s.now.what c.in-ByOrder.named
    c.in-ByOrder.yes c.in-ByOrder.no c.deref-in-ByOrder.result.now c.deref-in-ByOrder-2.result.now
    c.in-ByOrder.is c.deref-in-ByOrder.ensures.value c.deref-in-ByOrder-2.ensures.value c.requires in
    let i = deeper_order c.args.s.now c.in-ByOrder.named c.in-ByOrder.yes c.in-ByOrder.no
    c.deref-in-ByOrder.result.now c.deref-in-ByOrder-2.result.now c.in-ByOrder.is
    c.deref-in-ByOrder.ensures.value c.deref-in-ByOrder-2.ensures.value in
    (omega (arith, i), (within, v))

pub pass_stmt-pass_list-requires : goal.pass_stmt-pass_list-requires
pass_stmt-pass_list-requires g t c κs within =
    let v = scope_typed (plan_of c.args.c.now).program c.args.here c.args.s.now.what c.in-Scope.blocks
    c.in-Scope.body c.deref-in-Scope-2.result.now c.in-Scope.is c.deref-in-Scope-2.ensures.value c.requires in
    let i = deeper_scope c.args.s.now c.in-Scope.blocks c.in-Scope.body c.deref-in-Scope-2.result.now c.in-Scope.is
    c.deref-in-Scope-2.ensures.value in
    (omega (arith, i), (within, v))

pub pass_stmt-returns-in-Call : goal.pass_stmt-returns-in-Call
pass_stmt-returns-in-Call g t c =
    call_passes g.K.AbstractStates.ops (plan_of c.args.c.now) c.args.here c.args.s.now.what (mode_of c.args.mode)
    c.args.s.now.line c.args.known c.pass_call.result c.args.log.now c.pass_call.new.log c.in-Call.k c.in-Call.es
    c.in-Call.d c.in-Call.d c.deref.result.now c.in-Call.is c.deref.ensures.value refl c.pass_call.ensures

pub pass_stmt-returns-in-If : goal.pass_stmt-returns-in-If
pass_stmt-returns-in-If g t c =
    if_passes g.K.AbstractStates.ops (plan_of c.args.c.now) c.args.here c.args.s.now.what (mode_of c.args.mode)
    c.args.s.now.line c.args.known c.pass_test.result c.args.log.now c.pass_test.new.log c.in-If.test c.in-If.yes
    c.in-If.no c.deref-in-If.result.now c.deref-in-If-2.result.now (ways_view c.none.result) c.in-If.is
    c.deref-in-If.ensures.value c.deref-in-If-2.ensures.value c.none.ensures c.pass_test.ensures

pub pass_stmt-returns-in-Loop : goal.pass_stmt-returns-in-Loop
pass_stmt-returns-in-Loop g t c =
    loop_passes g.K.AbstractStates.ops (plan_of c.args.c.now) c.args.here c.args.s.now.what (mode_of c.args.mode)
    c.args.s.now.line c.args.known c.pass_loop.result c.args.log.now c.pass_loop.new.log c.in-Loop.tests_first
    c.in-Loop.test c.in-Loop.body c.in-Loop.next c.deref-in-Loop.result.now c.deref-in-Loop-2.result.now
    c.in-Loop.is c.deref-in-Loop.ensures.value c.deref-in-Loop-2.ensures.value c.pass_loop.ensures

pub pass_stmt-returns-in-ByOrder : goal.pass_stmt-returns-in-ByOrder
pass_stmt-returns-in-ByOrder g t c =
    order_passes g.K.AbstractStates.ops (plan_of c.args.c.now) c.args.here c.args.s.now.what (mode_of c.args.mode)
    c.args.s.now.line c.args.known c.pass_order.result c.args.log.now c.pass_order.new.log c.in-ByOrder.named
    c.in-ByOrder.yes c.in-ByOrder.no c.deref-in-ByOrder.result.now c.deref-in-ByOrder-2.result.now
    c.in-ByOrder.is c.deref-in-ByOrder.ensures.value c.deref-in-ByOrder-2.ensures.value c.pass_order.ensures

pub pass_stmt-returns-in_ok-flow-in-Scope : goal.pass_stmt-returns-in_ok-flow-in-Scope
pass_stmt-returns-in_ok-flow-in-Scope g t c =
    scope_passes g.K.AbstractStates.ops (plan_of c.args.c.now) c.args.here c.args.s.now.what (mode_of c.args.mode)
    c.args.s.now.line c.args.known c.leave_scope.result c.args.log.now c.pass_list.new.log c.in-Scope.blocks
    c.in-Scope.body c.deref-in-Scope.result.now c.deref-in-Scope-3.result.now c.deref-in-Scope-2.result.now
    c.in_ok-inner-in-Scope.inner c.in_ok-flow-in-Scope.flow c.in-Scope.is c.deref-in-Scope.ensures.value
    c.deref-in-Scope-3.ensures.value c.deref-in-Scope-2.ensures.value c.in_ok-inner-in-Scope.ensures
    c.in_ok-flow-in-Scope.ensures c.leave_scope.ensures.on c.leave_scope.ensures.ways

pub pass_stmt-returns-in-Nothing : goal.pass_stmt-returns-in-Nothing
pass_stmt-returns-in-Nothing g t c = c.pass_simple.ensures

pub pass_test-pass_two-requires : goal.pass_test-pass_two-requires
pass_test-pass_two-requires g t c κs within = (omega arith, (within, (c.requires.test, c.requires.parts)))

pub pass_test-pass_four-requires : goal.pass_test-pass_four-requires
pass_test-pass_four-requires g t c κs within =
    let i = ap mode_rank c.in-Together.is in
    (omega (arith, i), (within, (c.requires.test, c.requires.parts)))

pub pass_test-pass_two-requires-in-Alone : goal.pass_test-pass_two-requires-in-Alone
pass_test-pass_two-requires-in-Alone g t c κs within = (omega arith, (within, (c.requires.test, c.requires.parts)))

pub pass_test-returns-in-Stuck : goal.pass_test-returns-in-Stuck
pass_test-returns-in-Stuck g t c =
    test_stuck g.K.AbstractStates.ops (plan_of c.args.c.now) c.args.here c.args.mode (followed_of c.args.follow)
    (expr_view c.args.test.now) c.args.line (ways_view c.args.before) _ c.args.known c.in_ok-truths.truths
    c.args.log.now _ _ (tells_at _ c.args.log.now _ _ (sym c.log.view_is) c.in_ok-truths.ensures.faults refl
    refl) c.in_ok-truths.ensures.truths refl refl c.in-Stuck.is refl

pub pass_test-returns-in-Same : goal.pass_test-returns-in-Same
pass_test-returns-in-Same g t c =
    test_same g.K.AbstractStates.ops (plan_of c.args.c.now) c.args.here c.args.mode (followed_of c.args.follow)
    (expr_view c.args.test.now) c.args.line (ways_view c.args.before) _ c.args.known c.in_ok-truths.truths
    c.args.log.now _ _ (tells_at _ c.args.log.now _ _ (sym c.log.view_is) c.in_ok-truths.ensures.faults refl
    refl) c.in_ok-truths.ensures.truths refl refl c.pass_two.result c.in-Same.is c.pass_two.ensures

pub pass_test-returns-in-Together : goal.pass_test-returns-in-Together
pass_test-returns-in-Together g t c =
    test_both g.K.AbstractStates.ops (plan_of c.args.c.now) c.args.here c.args.mode (followed_of c.args.follow)
    (expr_view c.args.test.now) c.args.line (ways_view c.args.before) _ c.args.known c.in_ok-truths.truths
    c.args.log.now _ _ (tells_at _ c.args.log.now _ _ (sym c.log.view_is) c.in_ok-truths.ensures.faults refl
    refl) c.in_ok-truths.ensures.truths refl refl c.pass_four.result c.in-Differs.is c.in-Together.is
    c.pass_four.ensures

pub pass_test-returns-in-Alone : goal.pass_test-returns-in-Alone
pass_test-returns-in-Alone g t c =
    test_alone g.K.AbstractStates.ops (plan_of c.args.c.now) c.args.here c.args.mode (followed_of c.args.follow)
    (expr_view c.args.test.now) c.args.line (ways_view c.args.before) _ c.args.known c.in_ok-truths.truths
    c.args.log.now _ _ (tells_at _ c.args.log.now _ _ (sym c.log.view_is) c.in_ok-truths.ensures.faults refl
    refl) c.in_ok-truths.ensures.truths refl refl c.in-Alone.field-0 c.pass_two-in-Alone.result c.in-Differs.is
    c.in-Alone.is c.pass_two-in-Alone.ensures

pub pass_turn-pass_test-requires : goal.pass_turn-pass_test-requires
pass_turn-pass_test-requires = loops.pass_turn-pass_test-requires

pub pass_turn-returns : goal.pass_turn-returns
pass_turn-returns = loops.pass_turn-returns

pub pass_two-follow_truths-requires : goal.pass_two-follow_truths-requires
pass_two-follow_truths-requires g t c κs within = (omega arith, (within, c.requires.parts))

pub pass_two-follow_truths-requires-2 : goal.pass_two-follow_truths-requires-2
pass_two-follow_truths-requires-2 g t c κs within = (omega arith, (within, c.requires.parts))

pub pass_two-returns : goal.pass_two-returns
pass_two-returns g t c =
    step_ok (o g.K.AbstractStates.ops (plan_of c.args.c.now)) (either_pass (o g.K.AbstractStates.ops (plan_of
    c.args.c.now)) (flow_view c.args.before) (branch (agreed (o g.K.AbstractStates.ops (plan_of c.args.c.now))
    (mode_of c.args.mode) (expr_view c.args.test.now) true c.args.known) (followed g.K.AbstractStates.ops
    (plan_of c.args.c.now) c.args.here (followed_of c.args.follow) (mode_of c.args.mode) true true))) _ (agreed
    (o g.K.AbstractStates.ops (plan_of c.args.c.now)) (mode_of c.args.mode) (expr_view c.args.test.now) false
    c.args.known) (followed g.K.AbstractStates.ops (plan_of c.args.c.now) c.args.here (followed_of c.args.follow)
    (mode_of c.args.mode) false false) c.in_ok-flow.flow c.follow_truths-2.result _ _ _ c.in_ok-no.ensures
    (first_passed (o g.K.AbstractStates.ops (plan_of c.args.c.now)) (flow_view c.args.before) _ _ (followed
    g.K.AbstractStates.ops (plan_of c.args.c.now) c.args.here (followed_of c.args.follow) (mode_of c.args.mode)
    true true) c.in_ok-flow.flow _ _ c.in_ok-yes.ensures c.in_ok-flow.ensures) c.follow_truths-2.ensures

-- ---- memory runs out

pub follow_one-returns-in_err-alarm-in-true-true-3 : goal.follow_one-returns-in_err-alarm-in-true-true-3
follow_one-returns-in_err-alarm-in-true-true-3 = errors.follow_one-returns-in_err-alarm-in-true-true-3

pub follow_truths-returns-in_err-next : goal.follow_truths-returns-in_err-next
follow_truths-returns-in_err-next = errors.follow_truths-returns-in_err-next

pub pass_apart-returns-in_err-on : goal.pass_apart-returns-in_err-on
pass_apart-returns-in_err-on = errors.pass_apart-returns-in_err-on

pub pass_apart-returns-in_err-flow : goal.pass_apart-returns-in_err-flow
pass_apart-returns-in_err-flow = errors.pass_apart-returns-in_err-flow

pub pass_apart-returns-in_err-whole : goal.pass_apart-returns-in_err-whole
pass_apart-returns-in_err-whole = errors.pass_apart-returns-in_err-whole

pub pass_apart-returns-in_err-flow-2 : goal.pass_apart-returns-in_err-flow-2
pass_apart-returns-in_err-flow-2 = errors.pass_apart-returns-in_err-flow-2

pub pass_apart-returns-in_err-flow-3 : goal.pass_apart-returns-in_err-flow-3
pass_apart-returns-in_err-flow-3 = errors.pass_apart-returns-in_err-flow-3

pub pass_apart-returns-in_err-whole-2 : goal.pass_apart-returns-in_err-whole-2
pass_apart-returns-in_err-whole-2 = errors.pass_apart-returns-in_err-whole-2

pub pass_apart-returns-in_err-flow-4 : goal.pass_apart-returns-in_err-flow-4
pass_apart-returns-in_err-flow-4 = errors.pass_apart-returns-in_err-flow-4

pub pass_apart-returns-in_err-flow-5 : goal.pass_apart-returns-in_err-flow-5
pass_apart-returns-in_err-flow-5 = errors.pass_apart-returns-in_err-flow-5

pub pass_apart-returns-in_err-whole-3 : goal.pass_apart-returns-in_err-whole-3
pass_apart-returns-in_err-whole-3 = errors.pass_apart-returns-in_err-whole-3

pub pass_apart-returns-in_err-flow-6 : goal.pass_apart-returns-in_err-flow-6
pass_apart-returns-in_err-flow-6 = errors.pass_apart-returns-in_err-flow-6

pub pass_apart-returns-in_err-flow-7 : goal.pass_apart-returns-in_err-flow-7
pass_apart-returns-in_err-flow-7 = errors.pass_apart-returns-in_err-flow-7

pub pass_begun-returns-in_err-on : goal.pass_begun-returns-in_err-on
pass_begun-returns-in_err-on = errors.pass_begun-returns-in_err-on

pub pass_body-returns-in_err-on : goal.pass_body-returns-in_err-on
pass_body-returns-in_err-on = errors.pass_body-returns-in_err-on

pub pass_body-returns-in_err-ended : goal.pass_body-returns-in_err-ended
pass_body-returns-in_err-ended = errors.pass_body-returns-in_err-ended

pub pass_body-returns-in_err-on-2 : goal.pass_body-returns-in_err-on-2
pass_body-returns-in_err-on-2 = errors.pass_body-returns-in_err-on-2

pub pass_call-returns-in_err-inner-in-Some : goal.pass_call-returns-in_err-inner-in-Some
pass_call-returns-in_err-inner-in-Some = errors.pass_call-returns-in_err-inner-in-Some

pub pass_call-returns-in_err-flow-in-Some : goal.pass_call-returns-in_err-flow-in-Some
pass_call-returns-in_err-flow-in-Some = errors.pass_call-returns-in_err-flow-in-Some

pub pass_call-returns-in_err-left-in-Some : goal.pass_call-returns-in_err-left-in-Some
pass_call-returns-in_err-left-in-Some = errors.pass_call-returns-in_err-left-in-Some

pub pass_entered-returns-in_err-alarm : goal.pass_entered-returns-in_err-alarm
pass_entered-returns-in_err-alarm = errors.pass_entered-returns-in_err-alarm

pub pass_four-returns-in_err-both : goal.pass_four-returns-in_err-both
pass_four-returns-in_err-both = errors.pass_four-returns-in_err-both

pub pass_four-returns-in_err-flow : goal.pass_four-returns-in_err-flow
pass_four-returns-in_err-flow = errors.pass_four-returns-in_err-flow

pub pass_four-returns-in_err-left : goal.pass_four-returns-in_err-left
pass_four-returns-in_err-left = errors.pass_four-returns-in_err-left

pub pass_four-returns-in_err-flow-2 : goal.pass_four-returns-in_err-flow-2
pass_four-returns-in_err-flow-2 = errors.pass_four-returns-in_err-flow-2

pub pass_four-returns-in_err-right : goal.pass_four-returns-in_err-right
pass_four-returns-in_err-right = errors.pass_four-returns-in_err-right

pub pass_four-returns-in_err-flow-3 : goal.pass_four-returns-in_err-flow-3
pass_four-returns-in_err-flow-3 = errors.pass_four-returns-in_err-flow-3

pub pass_four-returns-in_err-neither : goal.pass_four-returns-in_err-neither
pass_four-returns-in_err-neither = errors.pass_four-returns-in_err-neither

pub pass_two-returns-in_err-yes : goal.pass_two-returns-in_err-yes
pass_two-returns-in_err-yes = errors.pass_two-returns-in_err-yes

pub pass_two-returns-in_err-flow : goal.pass_two-returns-in_err-flow
pass_two-returns-in_err-flow = errors.pass_two-returns-in_err-flow

pub pass_two-returns-in_err-no : goal.pass_two-returns-in_err-no
pass_two-returns-in_err-no = errors.pass_two-returns-in_err-no

pub pass_heads-returns-in_err-rounds : goal.pass_heads-returns-in_err-rounds
pass_heads-returns-in_err-rounds = errors.pass_heads-returns-in_err-rounds

pub pass_heads-returns-in_err-kept : goal.pass_heads-returns-in_err-kept
pass_heads-returns-in_err-kept = errors.pass_heads-returns-in_err-kept

pub pass_heads-returns-in_err-copy : goal.pass_heads-returns-in_err-copy
pass_heads-returns-in_err-copy = errors.pass_heads-returns-in_err-copy

pub pass_heads-returns-in_err-flow : goal.pass_heads-returns-in_err-flow
pass_heads-returns-in_err-flow = errors.pass_heads-returns-in_err-flow

pub pass_heads-returns-in_err-wider : goal.pass_heads-returns-in_err-wider
pass_heads-returns-in_err-wider = errors.pass_heads-returns-in_err-wider

pub pass_heads-returns-in_err-keep-in-None : goal.pass_heads-returns-in_err-keep-in-None
pass_heads-returns-in_err-keep-in-None = errors.pass_heads-returns-in_err-keep-in-None

pub pass_heads-returns-in_err-rounds-in-Some : goal.pass_heads-returns-in_err-rounds-in-Some
pass_heads-returns-in_err-rounds-in-Some = errors.pass_heads-returns-in_err-rounds-in-Some

pub pass_heads-returns-in_err-head : goal.pass_heads-returns-in_err-head
pass_heads-returns-in_err-head = errors.pass_heads-returns-in_err-head

pub pass_heads-returns-in_err-copy-2 : goal.pass_heads-returns-in_err-copy-2
pass_heads-returns-in_err-copy-2 = errors.pass_heads-returns-in_err-copy-2

pub pass_heads-returns-in_err-flow-2 : goal.pass_heads-returns-in_err-flow-2
pass_heads-returns-in_err-flow-2 = errors.pass_heads-returns-in_err-flow-2

pub pass_heads-returns-in_err-keep : goal.pass_heads-returns-in_err-keep
pass_heads-returns-in_err-keep = errors.pass_heads-returns-in_err-keep

pub pass_last-returns-in_err-head-in-Together : goal.pass_last-returns-in_err-head-in-Together
pass_last-returns-in_err-head-in-Together = errors.pass_last-returns-in_err-head-in-Together

pub pass_list-returns-in_err-on : goal.pass_list-returns-in_err-on
pass_list-returns-in_err-on = errors.pass_list-returns-in_err-on

pub pass_list-returns-in_err-ways : goal.pass_list-returns-in_err-ways
pass_list-returns-in_err-ways = errors.pass_list-returns-in_err-ways

pub pass_lone-returns-in_err-flow-in-Together : goal.pass_lone-returns-in_err-flow-in-Together
pass_lone-returns-in_err-flow-in-Together = errors.pass_lone-returns-in_err-flow-in-Together

pub pass_loop-returns-in_err-flow : goal.pass_loop-returns-in_err-flow
pass_loop-returns-in_err-flow = errors.pass_loop-returns-in_err-flow

pub pass_loop-returns-in_err-flow-in-Together : goal.pass_loop-returns-in_err-flow-in-Together
pass_loop-returns-in_err-flow-in-Together = errors.pass_loop-returns-in_err-flow-in-Together

pub pass_loop-returns-in_err-flow-in-Alone : goal.pass_loop-returns-in_err-flow-in-Alone
pass_loop-returns-in_err-flow-in-Alone = errors.pass_loop-returns-in_err-flow-in-Alone

pub pass_rounds-returns-in_err-on : goal.pass_rounds-returns-in_err-on
pass_rounds-returns-in_err-on = errors.pass_rounds-returns-in_err-on

pub pass_rounds-returns-in_err-ways : goal.pass_rounds-returns-in_err-ways
pass_rounds-returns-in_err-ways = errors.pass_rounds-returns-in_err-ways

pub pass_stmt-returns-in_err-inner-in-Scope : goal.pass_stmt-returns-in_err-inner-in-Scope
pass_stmt-returns-in_err-inner-in-Scope = errors.pass_stmt-returns-in_err-inner-in-Scope

pub pass_stmt-returns-in_err-flow-in-Scope : goal.pass_stmt-returns-in_err-flow-in-Scope
pass_stmt-returns-in_err-flow-in-Scope = errors.pass_stmt-returns-in_err-flow-in-Scope

pub pass_test-returns-in_err-truths : goal.pass_test-returns-in_err-truths
pass_test-returns-in_err-truths = errors.pass_test-returns-in_err-truths
