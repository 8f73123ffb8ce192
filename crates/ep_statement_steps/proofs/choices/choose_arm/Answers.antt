use Rattle.std.proofs.Common.{◌≡◌, true, false, sym, ap, ◌∙◌}
use Rattle.ep_core.specs.Exec.{arm_left, chosen, is_order}
use Rattle.ep_machine.specs.Machines.{state_in}
use Rattle.ep_frames.specs.Stack.{arm_ends, list_of, piled}
use Rattle.ep_statement_steps.proofs.Arms.{arm_is}
use Rattle.ep_frames.proofs.Rounds.{list_grows}
use Rattle.ep_statement_steps.proofs.choices.choose_arm.Goals as goal

pub returns-then-is_same_order-clause-comes : goal.returns-then-is_same_order-clause-comes
returns-then-is_same_order-clause-comes c left =
    let m = c.args.on.now in
    let s = state_in c.args.machine.now in
    let x = list_of m c.args.here c.args.a.now left s in
    let e : is_order m.order c.args.named ≡ true = sym c.is_same_order.ensures ∙ c.if-is_same_order.true in
    c.in_ok-push.ensures.pile m x
    ∙ ap (λ k. piled m c.args.stack.now.items (arm_ends k x)) c.joint_count.ensures
    ∙ ap (piled m c.args.stack.now.items) (arm_is s left x (list_grows m c.args.here c.args.a.now left s)
    ∙ ap (λ t. arm_left c.args.machine.now.joint_tests (chosen t (list_of m c.args.here c.args.a.now)
    (list_of m c.args.here c.args.b.now) left s)) (sym e))

pub returns-then-is_same_order-clause-pile : goal.returns-then-is_same_order-clause-pile
returns-then-is_same_order-clause-pile c g = c.in_ok-push.ensures.fits c.args.on.now g tt

pub returns-clause-comes : goal.returns-clause-comes
returns-clause-comes c left =
    let m = c.args.on.now in
    let s = state_in c.args.machine.now in
    let x = list_of m c.args.here c.args.b.now left s in
    let e : is_order m.order c.args.named ≡ false = sym c.is_same_order.ensures ∙ c.if-is_same_order.false in
    c.in_ok-push.ensures.pile m x
    ∙ ap (λ k. piled m c.args.stack.now.items (arm_ends k x)) c.joint_count.ensures
    ∙ ap (piled m c.args.stack.now.items) (arm_is s left x (list_grows m c.args.here c.args.b.now left s)
    ∙ ap (λ t. arm_left c.args.machine.now.joint_tests (chosen t (list_of m c.args.here c.args.a.now)
    (list_of m c.args.here c.args.b.now) left s)) (sym e))

pub returns-clause-pile : goal.returns-clause-pile
returns-clause-pile c g = c.in_ok-push.ensures.fits c.args.on.now g tt
