use Rattle.std.proofs.Common.{refl, sym, ap, ◌∙◌, ◌-◌, subst, arith, true, false, if◌then◌else◌}
use Rattle.ep_core.specs.Exec.{is_order}
use Rattle.ep_core.specs.View.{expr_view, stmts_view, function_view}
use Rattle.ep_flows.specs.View.{mode_of, plan_of, side_of, ways_view}
use Rattle.ep_walk_parts.specs.Pieces.{followed_of}
use Rattle.ep_walk_parts.specs.Typed.{FollowIsTyped}
use Rattle.ep_walk_parts.proofs.Deeper.{before_after, deeper_if, deeper_item, deeper_loop, deeper_order, deeper_scope}
use Rattle.ep_walk_parts.proofs.Deeper.{depth, depth_follow, lone_less, mode_rank, rank_small, some_size}
use Rattle.ep_walk_parts.proofs.TypedParts.{arm_typed, function_typed, if_typed, is_at, is_none, item_typed, loop_typed}
use Rattle.ep_walk_parts.proofs.TypedParts.{order_typed, scope_typed, stmt_typed}
use Rattle.ep_certcheck_walk.specs.Leaving.{way_of_leaving}
use Rattle.ep_certcheck_walk.specs.Pieces.{all, followed, row}
use Rattle.ep_certcheck_walk.specs.Stops.{Finds, course}
use Rattle.ep_certcheck_walk.proofs.Arms.{arm_depth, call_passes, function_none, function_some, if_passes, loop_passes}
use Rattle.ep_certcheck_walk.proofs.Arms.{order_alone, order_both, order_passes, scope_passes}
use Rattle.ep_certcheck_walk.proofs.Combined.{branch_ok}
use Rattle.ep_certcheck_walk.proofs.Rows.{rows_all, rows_end, rows_more}
use Rattle.ep_certcheck_walk.proofs.Turning.{follow_ok, follows_found, four_goes, parted_goes, right_found, test_alone}
use Rattle.ep_certcheck_walk.proofs.Turning.{test_both, test_same, test_stuck, two_goes}
use Rattle.ep_certcheck_walk.proofs.statements.+walk.Goals as goal
use Rattle.ep_certcheck_walk.proofs.statements.+walk.Answers.Errors as errors
use Rattle.ep_certcheck_walk.proofs.statements.+walk.Answers.Loops as loops
mod Errors
mod Loops

pub follow_one-pass_list-requires : goal.follow_one-pass_list-requires
follow_one-pass_list-requires g t c κs within =
    let v = subst (λ z. FollowIsTyped (plan_of c.args.c.now).program c.args.here
    (followed_of z)) c.in-Arms.is c.requires in
    let i = ap depth_follow c.in-Arms.is in
    (omega (arith, i), (within, v.0))

pub follow_one-pass_apart-requires : goal.follow_one-pass_apart-requires
follow_one-pass_apart-requires g t c κs within =
    let v = subst (λ z. FollowIsTyped (plan_of c.args.c.now).program c.args.here
    (followed_of z)) c.in-Arms.is c.requires in
    let i = ap depth_follow c.in-Arms.is in
    (omega (arith, i), (within, v))

pub follow_one-pass_apart-requires-in-false-true : goal.follow_one-pass_apart-requires-in-false-true
follow_one-pass_apart-requires-in-false-true g t c κs within =
    let v = subst (λ z. FollowIsTyped (plan_of c.args.c.now).program c.args.here
    (followed_of z)) c.in-Arms.is c.requires in
    let i = ap depth_follow c.in-Arms.is in
    (omega (arith, i), (within, (v.1, v.0)))

pub follow_one-pass_list-requires-in-false-false : goal.follow_one-pass_list-requires-in-false-false
follow_one-pass_list-requires-in-false-false g t c κs within =
    let v = subst (λ z. FollowIsTyped (plan_of c.args.c.now).program c.args.here
    (followed_of z)) c.in-Arms.is c.requires in
    let i = ap depth_follow c.in-Arms.is in
    (omega (arith, i), (within, v.1))

pub follow_one-pass_body-requires : goal.follow_one-pass_body-requires
follow_one-pass_body-requires g t c κs within =
    let v = subst (λ z. FollowIsTyped (plan_of c.args.c.now).program c.args.here
    (followed_of z)) c.in-Turn.is c.requires in
    let i = ap depth_follow c.in-Turn.is in
    (omega (arith, i), (within, v))

pub follow_one-pass_lone-requires : goal.follow_one-pass_lone-requires
follow_one-pass_lone-requires g t c κs within =
    let v = subst (λ z. FollowIsTyped (plan_of c.args.c.now).program c.args.here
    (followed_of z)) c.in-Turn.is c.requires in
    let i = ap depth_follow c.in-Turn.is in
    let j = lone_less c.args.mode in (omega (arith, i, j), (within, v))

pub follow_one-pass_lone-requires-in-false-true-2 : goal.follow_one-pass_lone-requires-in-false-true-2
follow_one-pass_lone-requires-in-false-true-2 g t c κs within =
    let v = subst (λ z. FollowIsTyped (plan_of c.args.c.now).program c.args.here
    (followed_of z)) c.in-Turn.is c.requires in
    let i = ap depth_follow c.in-Turn.is in
    let j = lone_less c.args.mode in (omega (arith, i, j), (within, v))

pub follow_one-returns-in-true-true : goal.follow_one-returns-in-true-true
follow_one-returns-in-true-true g t c =
    follow_ok (course g.K.AbstractStates.ops g.K.CheckedStates.first_outside
    (plan_of c.args.c.now) c.args.heads.now) c.args.here _ (followed_of c.args.follow) c.args.taken.now
    (mode_of c.args.mode) true true c.args.on_left c.args.on_right c.args.known c.pass_list.result c.args.taken.now
    c.pass_list.new.taken (ap followed_of c.in-Arms.is) c.in-true-true.is-0 c.in-true-true.is-1 c.pass_list.ensures

pub follow_one-returns-in-true-false : goal.follow_one-returns-in-true-false
follow_one-returns-in-true-false g t c =
    follow_ok (course g.K.AbstractStates.ops g.K.CheckedStates.first_outside
    (plan_of c.args.c.now) c.args.heads.now) c.args.here _ (followed_of c.args.follow) c.args.taken.now
    (mode_of c.args.mode) true false c.args.on_left c.args.on_right c.args.known c.pass_apart.result c.args.taken.now
    c.pass_apart.new.taken (ap followed_of c.in-Arms.is) c.in-true-false.is-0 c.in-true-false.is-1 c.pass_apart.ensures

pub follow_one-returns-in-false-true : goal.follow_one-returns-in-false-true
follow_one-returns-in-false-true g t c =
    follow_ok (course g.K.AbstractStates.ops g.K.CheckedStates.first_outside
    (plan_of c.args.c.now) c.args.heads.now) c.args.here _ (followed_of c.args.follow) c.args.taken.now
    (mode_of c.args.mode) false true c.args.on_left c.args.on_right c.args.known c.pass_apart-in-false-true.result
    c.args.taken.now c.pass_apart-in-false-true.new.taken (ap followed_of c.in-Arms.is) c.in-false-true.is-0
    c.in-false-true.is-1 c.pass_apart-in-false-true.ensures

pub follow_one-returns-in-Arms : goal.follow_one-returns-in-Arms
follow_one-returns-in-Arms g t c =
    follow_ok (course g.K.AbstractStates.ops g.K.CheckedStates.first_outside
    (plan_of c.args.c.now) c.args.heads.now) c.args.here _ (followed_of c.args.follow) c.args.taken.now
    (mode_of c.args.mode) false false c.args.on_left c.args.on_right c.args.known c.pass_list-in-false-false.result
    c.args.taken.now c.pass_list-in-false-false.new.taken (ap followed_of c.in-Arms.is) c.in-false-false.is-0
    c.in-false-false.is-1 c.pass_list-in-false-false.ensures

pub follow_one-returns-in-true-true-2 : goal.follow_one-returns-in-true-true-2
follow_one-returns-in-true-true-2 g t c =
    follow_ok (course g.K.AbstractStates.ops g.K.CheckedStates.first_outside
    (plan_of c.args.c.now) c.args.heads.now) c.args.here _ (followed_of c.args.follow) c.args.taken.now
    (mode_of c.args.mode) true true c.args.on_left c.args.on_right c.args.known c.pass_body.result c.args.taken.now
    c.pass_body.new.taken (ap followed_of c.in-Turn.is) c.in-true-true-2.is-0 c.in-true-true-2.is-1 c.pass_body.ensures

pub follow_one-returns-in-true-false-2 : goal.follow_one-returns-in-true-false-2
follow_one-returns-in-true-false-2 g t c =
    follow_ok (course g.K.AbstractStates.ops g.K.CheckedStates.first_outside
    (plan_of c.args.c.now) c.args.heads.now) c.args.here _ (followed_of c.args.follow) c.args.taken.now
    (mode_of c.args.mode) true false c.args.on_left c.args.on_right c.args.known c.pass_lone.result c.args.taken.now
    c.pass_lone.new.taken (ap followed_of c.in-Turn.is) c.in-true-false-2.is-0 c.in-true-false-2.is-1
    c.pass_lone.ensures

pub follow_one-returns-in-false-true-2 : goal.follow_one-returns-in-false-true-2
follow_one-returns-in-false-true-2 g t c =
    follow_ok (course g.K.AbstractStates.ops g.K.CheckedStates.first_outside
    (plan_of c.args.c.now) c.args.heads.now) c.args.here _ (followed_of c.args.follow) c.args.taken.now
    (mode_of c.args.mode) false true c.args.on_left c.args.on_right c.args.known c.pass_lone-in-false-true-2.result
    c.args.taken.now c.pass_lone-in-false-true-2.new.taken (ap followed_of c.in-Turn.is) c.in-false-true-2.is-0
    c.in-false-true-2.is-1 c.pass_lone-in-false-true-2.ensures

pub follow_reached-follow_one-requires : goal.follow_reached-follow_one-requires
follow_reached-follow_one-requires g t c κs within =
    (omega arith, (within, c.requires))

pub follow_reached-returns-in-Some : goal.follow_reached-returns-in-Some
follow_reached-returns-in-Some g t c =
    let o = (course g.K.AbstractStates.ops g.K.CheckedStates.first_outside (plan_of c.args.c.now) c.args.heads.now) in
    branch_ok o c.args.known _ (followed o c.args.here (followed_of c.args.follow) c.args.taken.now
    (mode_of c.args.mode) c.args.on_left c.args.on_right) c.follow_one.result c.args.taken.now c.follow_one.new.taken
    c.in-Some.is c.follow_one.ensures

pub follow_truths-follow_reached-requires : goal.follow_truths-follow_reached-requires
follow_truths-follow_reached-requires g t c κs within =
    (omega arith, (within, c.requires.parts))

pub follow_truths-returns : goal.follow_truths-returns
follow_truths-returns g t c =
    follows_found (course g.K.AbstractStates.ops g.K.CheckedStates.first_outside
    (plan_of c.args.c.now) c.args.heads.now) c.args.here (followed_of c.args.follow) c.args.taken.now
    (mode_of c.args.mode) (expr_view c.args.test.now) c.args.on_left c.args.on_right c.args.known.now c.args.before
    c.in_ok-next.next c.in_ok-whole.whole c.in_ok-at.at _ (c.in_ok-at.ensures c.args.heads.now) c.in_ok-next.ensures
    c.in_ok-whole.ensures.on c.in_ok-whole.ensures.ways

pub pass_apart-pass_list-requires : goal.pass_apart-pass_list-requires
pass_apart-pass_list-requires g t c κs within =
    (omega arith, (within, c.requires.first))

pub pass_apart-pass_right-requires : goal.pass_apart-pass_right-requires
pass_apart-pass_right-requires g t c κs within =
    (omega arith, (within, c.requires.second))

pub pass_apart-pass_right-requires-2 : goal.pass_apart-pass_right-requires-2
pass_apart-pass_right-requires-2 g t c κs within =
    (omega arith, (within, c.requires.second))

pub pass_apart-pass_right-requires-3 : goal.pass_apart-pass_right-requires-3
pass_apart-pass_right-requires-3 g t c κs within =
    (omega arith, (within, c.requires.second))

pub pass_apart-pass_right-requires-4 : goal.pass_apart-pass_right-requires-4
pass_apart-pass_right-requires-4 g t c κs within =
    (omega arith, (within, c.requires.second))

pub pass_apart-returns : goal.pass_apart-returns
pass_apart-returns g t c =
    parted_goes (course g.K.AbstractStates.ops g.K.CheckedStates.first_outside
    (plan_of c.args.c.now) c.args.heads.now) c.args.here c.args.line (stmts_view c.args.first.now)
    (stmts_view c.args.second.now) c.args.known c.args.taken.now _ c.in_ok-on.field-0 c.in_ok-on.ensures
    c.none-flow.result c.none-flow.ensures.on c.none-flow.ensures.ways c.in_ok-flow.flow _ c.in_ok-flow.ensures
    c.in_ok-flow-2.flow _ c.in_ok-flow-2.ensures c.in_ok-flow-3.flow _ c.in_ok-flow-3.ensures c.pass_right-4.result
    c.pass_right-4.new.taken c.pass_right-4.ensures

pub pass_right-pass_branch-requires : goal.pass_right-pass_branch-requires
pass_right-pass_branch-requires g t c κs within =
    (omega arith, (within, c.requires))

pub pass_right-returns : goal.pass_right-returns
pass_right-returns g t c =
    let o = (course g.K.AbstractStates.ops g.K.CheckedStates.first_outside (plan_of c.args.c.now) c.args.heads.now) in
    right_found o c.args.here (stmts_view c.args.second.now)
    (way_of_leaving c.args.by) c.args.line c.args.known c.args.before c.args.taken.now c.in_ok-flow.flow _
    c.in_ok-flow.ensures c.in_ok-flow-2.flow c.in_ok-whole.whole (c.in_ok-flow-2.ensures o _) c.in_ok-whole.ensures.on
    c.in_ok-whole.ensures.ways

pub pass_branch-pass_list-requires : goal.pass_branch-pass_list-requires
pass_branch-pass_list-requires g t c κs within =
    (omega arith, (within, c.requires))

pub pass_branch-returns-in-Some : goal.pass_branch-returns-in-Some
pass_branch-returns-in-Some g t c =
    let o = (course g.K.AbstractStates.ops g.K.CheckedStates.first_outside (plan_of c.args.c.now) c.args.heads.now) in
    branch_ok o c.args.known _ (row o c.args.here (stmts_view c.args.body.now) c.args.taken.now
    (mode_of c.args.mode)) c.pass_list.result c.args.taken.now c.pass_list.new.taken c.in-Some.is c.pass_list.ensures

pub pass_four-follow_truths-requires : goal.pass_four-follow_truths-requires
pass_four-follow_truths-requires g t c κs within =
    (omega arith, (within, (c.requires.test, c.requires.parts)))

pub pass_four-follow_truths-requires-2 : goal.pass_four-follow_truths-requires-2
pass_four-follow_truths-requires-2 g t c κs within =
    (omega arith, (within, (c.requires.test, c.requires.parts)))

pub pass_four-follow_truths-requires-3 : goal.pass_four-follow_truths-requires-3
pass_four-follow_truths-requires-3 g t c κs within =
    (omega arith, (within, (c.requires.test, c.requires.parts)))

pub pass_four-follow_truths-requires-4 : goal.pass_four-follow_truths-requires-4
pass_four-follow_truths-requires-4 g t c κs within =
    (omega arith, (within, (c.requires.test, c.requires.parts)))

pub pass_two-follow_truths-requires : goal.pass_two-follow_truths-requires
pass_two-follow_truths-requires g t c κs within =
    (omega arith, (within, (c.requires.test, c.requires.parts)))

pub pass_two-follow_truths-requires-2 : goal.pass_two-follow_truths-requires-2
pass_two-follow_truths-requires-2 g t c κs within =
    (omega arith, (within, (c.requires.test, c.requires.parts)))

pub pass_four-returns : goal.pass_four-returns
pass_four-returns g t c =
    four_goes (course g.K.AbstractStates.ops g.K.CheckedStates.first_outside
    (plan_of c.args.c.now) c.args.heads.now) c.args.here (followed_of c.args.follow) c.args.taken.now
    (expr_view c.args.test.now) c.args.known c.args.before c.in_ok-flow.flow _ c.in_ok-flow.ensures c.in_ok-flow-2.flow
    _ c.in_ok-flow-2.ensures c.in_ok-flow-3.flow _ c.in_ok-flow-3.ensures c.follow_truths-4.result
    c.follow_truths-4.new.taken c.follow_truths-4.ensures

pub pass_two-returns : goal.pass_two-returns
pass_two-returns g t c =
    two_goes (course g.K.AbstractStates.ops g.K.CheckedStates.first_outside
    (plan_of c.args.c.now) c.args.heads.now) c.args.here (followed_of c.args.follow) c.args.taken.now
    (mode_of c.args.mode) (expr_view c.args.test.now) c.args.known c.args.before c.in_ok-flow.flow _
    c.in_ok-flow.ensures c.follow_truths-2.result c.follow_truths-2.new.taken c.follow_truths-2.ensures

pub pass_function-pass_list-requires : goal.pass_function-pass_list-requires
pass_function-pass_list-requires g t c κs within =
    let e = sym (rw c.in-Some-function_at.is at c.function_at.ensures) in
    let f = c.in-Some-function_at.f.now in
    let i = before_after c.args.c.now.program.now.functions.items c.args.k f e in
    let j = ap depth c.deref.ensures.value in
    let v = function_typed c.args.c.now.program.now c.args.k f c.deref.result.now e c.deref.ensures.value in
    (omega (arith, i, j), (within, v))

pub pass_function-returns-in-None-function_at : goal.pass_function-returns-in-None-function_at
pass_function-returns-in-None-function_at g t c =
    let e = sym (rw c.in-None-function_at.is at c.function_at.ensures) in
    function_none (course g.K.AbstractStates.ops g.K.CheckedStates.first_outside
    (plan_of c.args.c.now) c.args.heads.now) c.args.k
    (mode_of c.args.mode) c.args.known c.in-Some.known c.on.result c.args.taken.now
    (is_none c.args.c.now.program.now c.args.k e) c.in-Some.is c.on.ensures.on c.on.ensures.ways

pub pass_function-returns-in-Some-function_at : goal.pass_function-returns-in-Some-function_at
pass_function-returns-in-Some-function_at g t c =
    let o = (course g.K.AbstractStates.ops g.K.CheckedStates.first_outside (plan_of c.args.c.now) c.args.heads.now) in
    let e = sym (rw c.in-Some-function_at.is at c.function_at.ensures) in
    let f = c.in-Some-function_at.f.now in
    function_some o c.args.k (mode_of c.args.mode) c.args.known c.in-Some.known
    (function_view f) c.pass_list.result c.args.taken.now c.pass_list.new.taken
    (is_at c.args.c.now.program.now c.args.k f e) c.in-Some.is
    (subst (λ z. Finds o (row o c.args.k (stmts_view z) c.args.taken.now
    (mode_of c.args.mode) c.in-Some.known) c.pass_list.result c.args.taken.now c.pass_list.new.taken)
    c.deref.ensures.value c.pass_list.ensures)

pub pass_list-loop-s-init : goal.pass_list-loop-s-init
pass_list-loop-s-init g t c =
    let o = (course g.K.AbstractStates.ops g.K.CheckedStates.first_outside (plan_of c.args.c.now) c.args.heads.now) in
    λ x new h. subst (λ w. Finds o
    (all o c.args.here (stmts_view c.args.body.now) c.args.taken.now
    (mode_of c.args.mode) c.args.known w) x c.args.taken.now new) c.none-ways.ensures h

pub pass_list-pass_stmt-requires : goal.pass_list-pass_stmt-requires
pass_list-pass_stmt-requires g t c κs within =
    let v = item_typed (plan_of c.args.c.now).program c.args.here c.args.body.now c.loop-s.s-index c.s-item.result
    c.loop-s-test.true c.s-item.is c.requires in
    let i = deeper_item c.args.body.now c.loop-s.s-index c.s-item.result c.loop-s-test.true c.s-item.is in
    (omega (arith, i), (within, v))

pub pass_list-returns-in-None : goal.pass_list-returns-in-None
pass_list-returns-in-None g t c =
    rows_end (course g.K.AbstractStates.ops g.K.CheckedStates.first_outside
    (plan_of c.args.c.now) c.args.heads.now) c.args.here
    (mode_of c.args.mode) c.args.body.now c.loop-s.s-index c.s-item.result c.loop-s.at
    (ways_view c.loop-s.ways) c.loop-s.taken c.args.taken.now _ c.loop-s-test.true c.s-item.is c.loop-s.invariant
    c.in_ok-on.field-0 _ c.pass_stmt.new.taken (ways_view c.in_ok-ways.ways) c.in_ok-on.ensures c.in_ok-ways.ensures
    c.in-None.is refl refl

pub pass_list-loop-s-preserved : goal.pass_list-loop-s-preserved
pass_list-loop-s-preserved g t c =
    rows_more (course g.K.AbstractStates.ops g.K.CheckedStates.first_outside
    (plan_of c.args.c.now) c.args.heads.now) c.args.here
    (mode_of c.args.mode) c.args.body.now c.loop-s.s-index c.s-item.result c.loop-s.at
    (ways_view c.loop-s.ways) c.loop-s.taken c.args.taken.now _ c.loop-s-test.true c.s-item.is c.loop-s.invariant
    c.in_ok-on.field-0 c.pass_stmt.new.taken (ways_view c.in_ok-ways.ways) c.in-Some.next c.in_ok-on.ensures
    c.in_ok-ways.ensures c.in-Some.is

pub pass_list-returns : goal.pass_list-returns
pass_list-returns g t c =
    rows_all (course g.K.AbstractStates.ops g.K.CheckedStates.first_outside
    (plan_of c.args.c.now) c.args.heads.now) c.args.here
    (mode_of c.args.mode) c.args.body.now c.loop-s.s-index c.loop-s.at
    (ways_view c.loop-s.ways) c.loop-s.taken c.args.taken.now _ _ c.loop-s-test.false c.loop-s.invariant refl refl

pub pass_order-pass_apart-requires : goal.pass_order-pass_apart-requires
pass_order-pass_apart-requires g t c κs within =
    let v = arm_typed (plan_of c.args.c.now).program c.args.here
    (is_order c.args.c.now.left c.args.named) c.args.yes.now c.args.no.now c.arm-on_left.result.now
    c.arm-on_left.ensures c.requires.first c.requires.second in
    let w = arm_typed (plan_of c.args.c.now).program c.args.here
    (is_order c.args.c.now.right c.args.named) c.args.yes.now c.args.no.now c.arm-on_right.result.now
    c.arm-on_right.ensures c.requires.first c.requires.second in
    let i = arm_depth (is_order c.args.c.now.left c.args.named) c.args.yes.now c.args.no.now c.arm-on_left.result.now
    c.arm-on_left.ensures in
    let j = arm_depth (is_order c.args.c.now.right c.args.named) c.args.yes.now c.args.no.now c.arm-on_right.result.now
    c.arm-on_right.ensures in
    (omega (arith, i, j), (within, (v, w)))

pub pass_order-pass_list-requires : goal.pass_order-pass_list-requires
pass_order-pass_list-requires g t c κs within =
    let i = arm_depth (is_order c.order_of.result c.args.named) c.args.yes.now c.args.no.now c.arm-own.result.now
    c.arm-own.ensures in
    let v = arm_typed (plan_of c.args.c.now).program c.args.here
    (is_order c.order_of.result c.args.named) c.args.yes.now c.args.no.now c.arm-own.result.now c.arm-own.ensures
    c.requires.first c.requires.second in
    (omega (arith, i), (within, v))

pub pass_order-returns-in-Together : goal.pass_order-returns-in-Together
pass_order-returns-in-Together g t c =
    order_both (course g.K.AbstractStates.ops g.K.CheckedStates.first_outside
    (plan_of c.args.c.now) c.args.heads.now) c.args.here c.args.yes.now c.args.no.now c.args.known c.pass_apart.result
    c.args.taken.now c.pass_apart.new.taken c.args.taken.now c.args.named c.args.line (mode_of c.args.mode)
    c.arm-on_left.result.now c.arm-on_right.result.now (ap mode_of c.in-Together.is) c.arm-on_left.ensures
    c.arm-on_right.ensures c.pass_apart.ensures

pub pass_order-returns-in-Alone : goal.pass_order-returns-in-Alone
pass_order-returns-in-Alone g t c =
    order_alone (course g.K.AbstractStates.ops g.K.CheckedStates.first_outside
    (plan_of c.args.c.now) c.args.heads.now) c.args.here c.args.yes.now c.args.no.now c.args.known c.pass_list.result
    c.args.taken.now c.pass_list.new.taken c.args.taken.now c.args.named c.args.line (mode_of c.args.mode)
    (side_of c.in-Alone.machine) c.arm-own.result.now (ap mode_of c.in-Alone.is)
    (c.arm-own.ensures ∙ ap (λ z. if is_order z c.args.named then c.args.yes.now else c.args.no.now)
    c.order_of.ensures) c.pass_list.ensures

pub pass_stmt-pass_call-requires : goal.pass_stmt-pass_call-requires
pass_stmt-pass_call-requires g t c κs within =
    let v = stmt_typed (plan_of c.args.c.now).program c.args.here c.args.s.now.what c.in-Call.k c.in-Call.es
    c.in-Call.d c.deref.result.now c.in-Call.is c.deref.ensures.value c.requires in
    let i = some_size c.args.s.now in
    (omega (arith, i), (within, v))

pub pass_stmt-pass_test-requires : goal.pass_stmt-pass_test-requires
pass_stmt-pass_test-requires g t c κs within =
    let i = deeper_if c.args.s.now c.in-If.test c.in-If.yes c.in-If.no c.deref-in-If.result.now
    c.deref-in-If-2.result.now c.in-If.is c.deref-in-If.ensures.value c.deref-in-If-2.ensures.value in
    let k = if_typed (plan_of c.args.c.now).program c.args.here c.args.s.now.what c.in-If.test c.in-If.yes c.in-If.no
    c.deref-in-If.result.now c.deref-in-If-2.result.now c.in-If.is c.deref-in-If.ensures.value
    c.deref-in-If-2.ensures.value c.requires in
    let j = rank_small c.args.mode in
    (omega (arith, i, j), (within, (k.test, (k.yes, k.other))))

pub pass_stmt-pass_loop-requires : goal.pass_stmt-pass_loop-requires
pass_stmt-pass_loop-requires g t c κs within =
    let v = loop_typed (plan_of c.args.c.now).program c.args.here c.args.s.now.what c.in-Loop.tests_first
    c.args.s.now.line c.in-Loop.test c.in-Loop.body c.in-Loop.next c.deref-in-Loop.result.now
    c.deref-in-Loop-2.result.now c.in-Loop.is c.deref-in-Loop.ensures.value c.deref-in-Loop-2.ensures.value c.requires
    in
    let i = deeper_loop c.args.s.now c.in-Loop.tests_first c.in-Loop.test c.in-Loop.body c.in-Loop.next
    c.deref-in-Loop.result.now c.deref-in-Loop-2.result.now c.in-Loop.is c.deref-in-Loop.ensures.value
    c.deref-in-Loop-2.ensures.value in
    let j = rank_small c.args.mode in
    (omega (arith, i, j), (within, v))

pub pass_stmt-pass_order-requires : goal.pass_stmt-pass_order-requires
pass_stmt-pass_order-requires g t c κs within =
    let v = order_typed (plan_of c.args.c.now).program c.args.here c.args.s.now.what c.in-ByOrder.named
    c.in-ByOrder.yes c.in-ByOrder.no c.deref-in-ByOrder.result.now c.deref-in-ByOrder-2.result.now c.in-ByOrder.is
    c.deref-in-ByOrder.ensures.value c.deref-in-ByOrder-2.ensures.value c.requires in
    let i = deeper_order c.args.s.now c.in-ByOrder.named c.in-ByOrder.yes c.in-ByOrder.no c.deref-in-ByOrder.result.now
    c.deref-in-ByOrder-2.result.now c.in-ByOrder.is c.deref-in-ByOrder.ensures.value c.deref-in-ByOrder-2.ensures.value
    in
    (omega (arith, i), (within, v))

pub pass_stmt-pass_list-requires : goal.pass_stmt-pass_list-requires
pass_stmt-pass_list-requires g t c κs within =
    let v = scope_typed (plan_of c.args.c.now).program c.args.here c.args.s.now.what c.in-Scope.blocks c.in-Scope.body
    c.deref-in-Scope-2.result.now c.in-Scope.is c.deref-in-Scope-2.ensures.value c.requires in
    let i = deeper_scope c.args.s.now c.in-Scope.blocks c.in-Scope.body c.deref-in-Scope-2.result.now c.in-Scope.is
    c.deref-in-Scope-2.ensures.value in
    (omega (arith, i), (within, v))

pub pass_stmt-returns-in-Call : goal.pass_stmt-returns-in-Call
pass_stmt-returns-in-Call g t c =
    call_passes (course g.K.AbstractStates.ops g.K.CheckedStates.first_outside
    (plan_of c.args.c.now) c.args.heads.now) c.args.here c.args.s.now.what c.args.taken.now
    (mode_of c.args.mode) c.args.s.now.line c.args.known c.pass_call.result c.args.taken.now c.pass_call.new.taken
    c.in-Call.k c.in-Call.es c.in-Call.d c.in-Call.d c.deref.result.now c.in-Call.is c.deref.ensures.value refl
    c.pass_call.ensures

pub pass_stmt-returns-in-If : goal.pass_stmt-returns-in-If
pass_stmt-returns-in-If g t c =
    if_passes (course g.K.AbstractStates.ops g.K.CheckedStates.first_outside
    (plan_of c.args.c.now) c.args.heads.now) c.args.here c.args.s.now.what c.args.taken.now
    (mode_of c.args.mode) c.args.s.now.line c.args.known c.pass_test.result c.args.taken.now c.pass_test.new.taken
    c.in-If.test c.in-If.yes c.in-If.no c.deref-in-If.result.now c.deref-in-If-2.result.now
    (ways_view c.none-ways.result) c.in-If.is c.deref-in-If.ensures.value c.deref-in-If-2.ensures.value
    c.none-ways.ensures c.pass_test.ensures

pub pass_stmt-returns-in-Loop : goal.pass_stmt-returns-in-Loop
pass_stmt-returns-in-Loop g t c =
    loop_passes (course g.K.AbstractStates.ops g.K.CheckedStates.first_outside
    (plan_of c.args.c.now) c.args.heads.now) c.args.here c.args.s.now.what c.args.taken.now
    (mode_of c.args.mode) c.args.s.now.line c.args.known c.pass_loop.result c.args.taken.now c.pass_loop.new.taken
    c.in-Loop.tests_first c.in-Loop.test c.in-Loop.body c.in-Loop.next c.deref-in-Loop.result.now
    c.deref-in-Loop-2.result.now c.in-Loop.is c.deref-in-Loop.ensures.value c.deref-in-Loop-2.ensures.value
    c.pass_loop.ensures

pub pass_stmt-returns-in-ByOrder : goal.pass_stmt-returns-in-ByOrder
pass_stmt-returns-in-ByOrder g t c =
    order_passes (course g.K.AbstractStates.ops g.K.CheckedStates.first_outside
    (plan_of c.args.c.now) c.args.heads.now) c.args.here c.args.s.now.what c.args.taken.now
    (mode_of c.args.mode) c.args.s.now.line c.args.known c.pass_order.result c.args.taken.now c.pass_order.new.taken
    c.in-ByOrder.named c.in-ByOrder.yes c.in-ByOrder.no c.deref-in-ByOrder.result.now c.deref-in-ByOrder-2.result.now
    c.in-ByOrder.is c.deref-in-ByOrder.ensures.value c.deref-in-ByOrder-2.ensures.value c.pass_order.ensures

pub pass_stmt-returns-in_ok-left-in-Scope : goal.pass_stmt-returns-in_ok-left-in-Scope
pass_stmt-returns-in_ok-left-in-Scope g t c =
    scope_passes (course g.K.AbstractStates.ops g.K.CheckedStates.first_outside
    (plan_of c.args.c.now) c.args.heads.now) c.args.here c.args.s.now.what c.args.taken.now
    (mode_of c.args.mode) c.args.s.now.line c.args.known c.args.taken.now _ c.in-Scope.blocks c.in-Scope.body
    c.deref-in-Scope.result.now c.deref-in-Scope-2.result.now c.in_ok-inner-in-Scope.inner c.in-Scope.is
    c.deref-in-Scope.ensures.value c.deref-in-Scope-2.ensures.value c.in_ok-inner-in-Scope.ensures
    c.deref-in-Scope-3.result.now c.in_ok-flow-in-Scope.flow c.in_ok-left-in-Scope.left
    c.deref-in-Scope-3.ensures.value c.in_ok-flow-in-Scope.ensures c.in_ok-left-in-Scope.ensures.on
    c.in_ok-left-in-Scope.ensures.ways

pub pass_stmt-returns-in-Nothing : goal.pass_stmt-returns-in-Nothing
pass_stmt-returns-in-Nothing g t c =
    c.pass_simple.ensures c.args.heads.now c.args.taken.now

pub pass_test-returns-in-Stuck : goal.pass_test-returns-in-Stuck
pass_test-returns-in-Stuck g t c =
    test_stuck (course g.K.AbstractStates.ops g.K.CheckedStates.first_outside
    (plan_of c.args.c.now) c.args.heads.now) c.args.here (followed_of c.args.follow) c.args.taken.now c.args.mode
    (expr_view c.args.test.now) c.args.line (ways_view c.args.before) c.args.known _ c.in_ok-truths.truths
    (c.in_ok-truths.ensures c.args.heads.now).0 (c.in_ok-truths.ensures c.args.heads.now).1 refl refl c.in-Stuck.is

pub pass_test-returns-in-Same : goal.pass_test-returns-in-Same
pass_test-returns-in-Same g t c =
    test_same (course g.K.AbstractStates.ops g.K.CheckedStates.first_outside
    (plan_of c.args.c.now) c.args.heads.now) c.args.here (followed_of c.args.follow) c.args.taken.now c.args.mode
    (expr_view c.args.test.now) c.args.line (ways_view c.args.before) c.args.known _ c.in_ok-truths.truths
    (c.in_ok-truths.ensures c.args.heads.now).0
    (c.in_ok-truths.ensures c.args.heads.now).1 refl refl c.pass_two.result c.pass_two.new.taken c.in-Same.is
    c.pass_two.ensures

pub pass_test-returns-in-Together : goal.pass_test-returns-in-Together
pass_test-returns-in-Together g t c =
    test_both (course g.K.AbstractStates.ops g.K.CheckedStates.first_outside
    (plan_of c.args.c.now) c.args.heads.now) c.args.here (followed_of c.args.follow) c.args.taken.now c.args.mode
    (expr_view c.args.test.now) c.args.line (ways_view c.args.before) c.args.known _ c.in_ok-truths.truths
    (c.in_ok-truths.ensures c.args.heads.now).0
    (c.in_ok-truths.ensures c.args.heads.now).1 refl refl c.pass_four.result c.pass_four.new.taken c.in-Differs.is
    c.in-Together.is c.pass_four.ensures

pub pass_test-returns-in-Alone : goal.pass_test-returns-in-Alone
pass_test-returns-in-Alone g t c =
    test_alone (course g.K.AbstractStates.ops g.K.CheckedStates.first_outside
    (plan_of c.args.c.now) c.args.heads.now) c.args.here (followed_of c.args.follow) c.args.taken.now c.args.mode
    (expr_view c.args.test.now) c.args.line (ways_view c.args.before) c.args.known _ c.in_ok-truths.truths
    (c.in_ok-truths.ensures c.args.heads.now).0
    (c.in_ok-truths.ensures c.args.heads.now).1 refl refl c.in-Alone.field-0 c.pass_two-in-Alone.result
    c.pass_two-in-Alone.new.taken c.in-Differs.is c.in-Alone.is c.pass_two-in-Alone.ensures

pub pass_test-pass_two-requires : goal.pass_test-pass_two-requires
pass_test-pass_two-requires g t c κs within =
    (omega arith, (within, (c.requires.test, c.requires.parts)))

pub pass_test-pass_four-requires : goal.pass_test-pass_four-requires
pass_test-pass_four-requires g t c κs within =
    let i = ap mode_rank c.in-Together.is in
    (omega (arith, i), (within, (c.requires.test, c.requires.parts)))

pub pass_test-pass_two-requires-in-Alone : goal.pass_test-pass_two-requires-in-Alone
pass_test-pass_two-requires-in-Alone g t c κs within =
    (omega arith, (within, (c.requires.test, c.requires.parts)))

pub pass_begun-pass_body-requires : goal.pass_begun-pass_body-requires
pass_begun-pass_body-requires = loops.pass_begun-pass_body-requires

pub pass_begun-pass_rounds-requires : goal.pass_begun-pass_rounds-requires
pass_begun-pass_rounds-requires = loops.pass_begun-pass_rounds-requires

pub pass_begun-returns-in-None : goal.pass_begun-returns-in-None
pass_begun-returns-in-None = loops.pass_begun-returns-in-None

pub pass_begun-returns-in-Some : goal.pass_begun-returns-in-Some
pass_begun-returns-in-Some = loops.pass_begun-returns-in-Some

pub pass_body-pass_list-requires : goal.pass_body-pass_list-requires
pass_body-pass_list-requires = loops.pass_body-pass_list-requires

pub pass_body-pass_branch-requires : goal.pass_body-pass_branch-requires
pass_body-pass_branch-requires = loops.pass_body-pass_branch-requires

pub pass_body-returns : goal.pass_body-returns
pass_body-returns = loops.pass_body-returns

pub pass_call-enter_call-requires : goal.pass_call-enter_call-requires
pass_call-enter_call-requires = loops.pass_call-enter_call-requires

pub pass_call-pass_function-requires : goal.pass_call-pass_function-requires
pass_call-pass_function-requires = loops.pass_call-pass_function-requires

pub pass_call-give_result-requires : goal.pass_call-give_result-requires
pass_call-give_result-requires = loops.pass_call-give_result-requires

pub pass_call-returns-in-None : goal.pass_call-returns-in-None
pass_call-returns-in-None = loops.pass_call-returns-in-None

pub pass_call-returns-in_ok-left-in-Some : goal.pass_call-returns-in_ok-left-in-Some
pass_call-returns-in_ok-left-in-Some = loops.pass_call-returns-in_ok-left-in-Some

pub pass_entered-returns-then-c-eq0 : goal.pass_entered-returns-then-c-eq0
pass_entered-returns-then-c-eq0 = loops.pass_entered-returns-then-c-eq0

pub pass_entered-pass_begun-requires : goal.pass_entered-pass_begun-requires
pass_entered-pass_begun-requires = loops.pass_entered-pass_begun-requires

pub pass_entered-returns : goal.pass_entered-returns
pass_entered-returns = loops.pass_entered-returns

pub pass_given-returns-in-None : goal.pass_given-returns-in-None
pass_given-returns-in-None = loops.pass_given-returns-in-None

pub pass_given-pass_turn-requires : goal.pass_given-pass_turn-requires
pass_given-pass_turn-requires = loops.pass_given-pass_turn-requires

pub pass_given-returns-in_ok-stay_reached-in-Some : goal.pass_given-returns-in_ok-stay_reached-in-Some
pass_given-returns-in_ok-stay_reached-in-Some = loops.pass_given-returns-in_ok-stay_reached-in-Some

pub pass_last-pass_test-requires : goal.pass_last-pass_test-requires
pass_last-pass_test-requires = loops.pass_last-pass_test-requires

pub pass_last-pass_given-requires : goal.pass_last-pass_given-requires
pass_last-pass_given-requires = loops.pass_last-pass_given-requires

pub pass_last-returns-in_ok-flow-in-Alone : goal.pass_last-returns-in_ok-flow-in-Alone
pass_last-returns-in_ok-flow-in-Alone = loops.pass_last-returns-in_ok-flow-in-Alone

pub pass_last-returns-in-Together : goal.pass_last-returns-in-Together
pass_last-returns-in-Together = loops.pass_last-returns-in-Together

pub pass_lone-pass_entered-requires : goal.pass_lone-pass_entered-requires
pass_lone-pass_entered-requires = loops.pass_lone-pass_entered-requires

pub pass_lone-returns-in-Alone : goal.pass_lone-returns-in-Alone
pass_lone-returns-in-Alone = loops.pass_lone-returns-in-Alone

pub pass_lone-returns-in_ok-flow-in-Together : goal.pass_lone-returns-in_ok-flow-in-Together
pass_lone-returns-in_ok-flow-in-Together = loops.pass_lone-returns-in_ok-flow-in-Together

pub pass_loop-pass_rounds-requires : goal.pass_loop-pass_rounds-requires
pass_loop-pass_rounds-requires = loops.pass_loop-pass_rounds-requires

pub pass_loop-pass_begun-requires : goal.pass_loop-pass_begun-requires
pass_loop-pass_begun-requires = loops.pass_loop-pass_begun-requires

pub pass_loop-pass_entered-requires : goal.pass_loop-pass_entered-requires
pass_loop-pass_entered-requires = loops.pass_loop-pass_entered-requires

pub pass_loop-returns-then-tests_first : goal.pass_loop-returns-then-tests_first
pass_loop-returns-then-tests_first = loops.pass_loop-returns-then-tests_first

pub pass_loop-returns-in_ok-flow-in-Together : goal.pass_loop-returns-in_ok-flow-in-Together
pass_loop-returns-in_ok-flow-in-Together = loops.pass_loop-returns-in_ok-flow-in-Together

pub pass_loop-returns-in_ok-flow-in-Alone : goal.pass_loop-returns-in_ok-flow-in-Alone
pass_loop-returns-in_ok-flow-in-Alone = loops.pass_loop-returns-in_ok-flow-in-Alone

pub pass_rounds-loop-turn-init : goal.pass_rounds-loop-turn-init
pass_rounds-loop-turn-init = loops.pass_rounds-loop-turn-init

pub pass_rounds-pass_turn-requires : goal.pass_rounds-pass_turn-requires
pass_rounds-pass_turn-requires = loops.pass_rounds-pass_turn-requires

pub pass_rounds-pass_last-requires : goal.pass_rounds-pass_last-requires
pass_rounds-pass_last-requires = loops.pass_rounds-pass_last-requires

pub pass_rounds-returns-in-None : goal.pass_rounds-returns-in-None
pass_rounds-returns-in-None = loops.pass_rounds-returns-in-None

pub pass_rounds-loop-turn-preserved : goal.pass_rounds-loop-turn-preserved
pass_rounds-loop-turn-preserved = loops.pass_rounds-loop-turn-preserved

pub pass_rounds-returns : goal.pass_rounds-returns
pass_rounds-returns = loops.pass_rounds-returns

pub pass_turn-pass_test-requires : goal.pass_turn-pass_test-requires
pass_turn-pass_test-requires = loops.pass_turn-pass_test-requires

pub pass_turn-returns : goal.pass_turn-returns
pass_turn-returns = loops.pass_turn-returns

pub follow_truths-returns-in_err-at : goal.follow_truths-returns-in_err-at
follow_truths-returns-in_err-at = errors.follow_truths-returns-in_err-at

pub follow_truths-returns-in_err-next : goal.follow_truths-returns-in_err-next
follow_truths-returns-in_err-next = errors.follow_truths-returns-in_err-next

pub follow_truths-returns-in_err-whole : goal.follow_truths-returns-in_err-whole
follow_truths-returns-in_err-whole = errors.follow_truths-returns-in_err-whole

pub pass_apart-returns-in_err-on : goal.pass_apart-returns-in_err-on
pass_apart-returns-in_err-on = errors.pass_apart-returns-in_err-on

pub pass_apart-returns-in_err-flow : goal.pass_apart-returns-in_err-flow
pass_apart-returns-in_err-flow = errors.pass_apart-returns-in_err-flow

pub pass_apart-returns-in_err-flow-2 : goal.pass_apart-returns-in_err-flow-2
pass_apart-returns-in_err-flow-2 = errors.pass_apart-returns-in_err-flow-2

pub pass_apart-returns-in_err-flow-3 : goal.pass_apart-returns-in_err-flow-3
pass_apart-returns-in_err-flow-3 = errors.pass_apart-returns-in_err-flow-3

pub pass_begun-returns-in_err-on : goal.pass_begun-returns-in_err-on
pass_begun-returns-in_err-on = errors.pass_begun-returns-in_err-on

pub pass_body-returns-in_err-on : goal.pass_body-returns-in_err-on
pass_body-returns-in_err-on = errors.pass_body-returns-in_err-on

pub pass_body-returns-in_err-ended : goal.pass_body-returns-in_err-ended
pass_body-returns-in_err-ended = errors.pass_body-returns-in_err-ended

pub pass_body-returns-in_err-on-2 : goal.pass_body-returns-in_err-on-2
pass_body-returns-in_err-on-2 = errors.pass_body-returns-in_err-on-2

pub pass_call-returns-in_err-inner-in-Some : goal.pass_call-returns-in_err-inner-in-Some
pass_call-returns-in_err-inner-in-Some = errors.pass_call-returns-in_err-inner-in-Some

pub pass_call-returns-in_err-flow-in-Some : goal.pass_call-returns-in_err-flow-in-Some
pass_call-returns-in_err-flow-in-Some = errors.pass_call-returns-in_err-flow-in-Some

pub pass_call-returns-in_err-left-in-Some : goal.pass_call-returns-in_err-left-in-Some
pass_call-returns-in_err-left-in-Some = errors.pass_call-returns-in_err-left-in-Some

pub pass_four-returns-in_err-flow : goal.pass_four-returns-in_err-flow
pass_four-returns-in_err-flow = errors.pass_four-returns-in_err-flow

pub pass_four-returns-in_err-flow-2 : goal.pass_four-returns-in_err-flow-2
pass_four-returns-in_err-flow-2 = errors.pass_four-returns-in_err-flow-2

pub pass_four-returns-in_err-flow-3 : goal.pass_four-returns-in_err-flow-3
pass_four-returns-in_err-flow-3 = errors.pass_four-returns-in_err-flow-3

pub pass_two-returns-in_err-flow : goal.pass_two-returns-in_err-flow
pass_two-returns-in_err-flow = errors.pass_two-returns-in_err-flow

pub pass_given-returns-in_err-stay_within-in-Some : goal.pass_given-returns-in_err-stay_within-in-Some
pass_given-returns-in_err-stay_within-in-Some = errors.pass_given-returns-in_err-stay_within-in-Some

pub pass_given-returns-in_err-copy-in-Some : goal.pass_given-returns-in_err-copy-in-Some
pass_given-returns-in_err-copy-in-Some = errors.pass_given-returns-in_err-copy-in-Some

pub pass_given-returns-in_err-on-in-Some : goal.pass_given-returns-in_err-on-in-Some
pass_given-returns-in_err-on-in-Some = errors.pass_given-returns-in_err-on-in-Some

pub pass_given-returns-in_err-stay_reached-in-Some : goal.pass_given-returns-in_err-stay_reached-in-Some
pass_given-returns-in_err-stay_reached-in-Some = errors.pass_given-returns-in_err-stay_reached-in-Some

pub pass_last-returns-in_err-flow-in-Alone : goal.pass_last-returns-in_err-flow-in-Alone
pass_last-returns-in_err-flow-in-Alone = errors.pass_last-returns-in_err-flow-in-Alone

pub pass_list-returns-in_err-on : goal.pass_list-returns-in_err-on
pass_list-returns-in_err-on = errors.pass_list-returns-in_err-on

pub pass_list-returns-in_err-ways : goal.pass_list-returns-in_err-ways
pass_list-returns-in_err-ways = errors.pass_list-returns-in_err-ways

pub pass_lone-returns-in_err-flow-in-Together : goal.pass_lone-returns-in_err-flow-in-Together
pass_lone-returns-in_err-flow-in-Together = errors.pass_lone-returns-in_err-flow-in-Together

pub pass_loop-returns-in_err-flow : goal.pass_loop-returns-in_err-flow
pass_loop-returns-in_err-flow = errors.pass_loop-returns-in_err-flow

pub pass_loop-returns-in_err-flow-in-Together : goal.pass_loop-returns-in_err-flow-in-Together
pass_loop-returns-in_err-flow-in-Together = errors.pass_loop-returns-in_err-flow-in-Together

pub pass_loop-returns-in_err-flow-in-Alone : goal.pass_loop-returns-in_err-flow-in-Alone
pass_loop-returns-in_err-flow-in-Alone = errors.pass_loop-returns-in_err-flow-in-Alone

pub pass_right-returns-in_err-flow : goal.pass_right-returns-in_err-flow
pass_right-returns-in_err-flow = errors.pass_right-returns-in_err-flow

pub pass_right-returns-in_err-flow-2 : goal.pass_right-returns-in_err-flow-2
pass_right-returns-in_err-flow-2 = errors.pass_right-returns-in_err-flow-2

pub pass_right-returns-in_err-whole : goal.pass_right-returns-in_err-whole
pass_right-returns-in_err-whole = errors.pass_right-returns-in_err-whole

pub pass_rounds-returns-in_err-on : goal.pass_rounds-returns-in_err-on
pass_rounds-returns-in_err-on = errors.pass_rounds-returns-in_err-on

pub pass_stmt-returns-in_err-inner-in-Scope : goal.pass_stmt-returns-in_err-inner-in-Scope
pass_stmt-returns-in_err-inner-in-Scope = errors.pass_stmt-returns-in_err-inner-in-Scope

pub pass_stmt-returns-in_err-flow-in-Scope : goal.pass_stmt-returns-in_err-flow-in-Scope
pass_stmt-returns-in_err-flow-in-Scope = errors.pass_stmt-returns-in_err-flow-in-Scope

pub pass_stmt-returns-in_err-left-in-Scope : goal.pass_stmt-returns-in_err-left-in-Scope
pass_stmt-returns-in_err-left-in-Scope = errors.pass_stmt-returns-in_err-left-in-Scope

pub pass_test-returns-in_err-truths : goal.pass_test-returns-in_err-truths
pass_test-returns-in_err-truths = errors.pass_test-returns-in_err-truths
