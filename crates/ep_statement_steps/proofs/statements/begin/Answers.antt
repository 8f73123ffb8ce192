use Rattle.std.proofs.Common.{suc, map, refl, sym, ap, ◌∙◌, subst}
use Rattle.std.proofs.lemmas.Result.{IfOk-weaker}
use Rattle.std.specs.Option.{option_map}
use Rattle.ep_bytes.specs.StoreView.{memory_in}
use Rattle.ep_core.specs.Exec.{returned_with}
use Rattle.ep_core.specs.Program.{call}
use Rattle.ep_core.specs.Typed.{ReturnFits}
use Rattle.ep_core.specs.View.{dest_view, expr_view, what_view}
use Rattle.ep_machine.specs.Settings.{program_in}
use Rattle.ep_machine.specs.Machines.{state_in}
use Rattle.ep_core.specs.declared.tree.What.TheVariants.{If, Loop, ByOrder}
use Rattle.ep_frames.specs.Stack.{one_of, piled, OneFits}
use Rattle.ep_statement_steps.proofs.Begins.{if_does, loop_does, arm_does, if_fits, loop_fits, arm_fits, if_test}
use Rattle.ep_statement_steps.proofs.Begins.{loop_test}
use Rattle.ep_statement_steps.proofs.Begins.{simple_fits, simple_does}
use Rattle.ep_statement_steps.proofs.statements.begin.Goals as goal

pub eval-requires-clause-typed : goal.eval-requires-clause-typed
eval-requires-clause-typed c =
    simple_fits c.args.on.now c.args.here (memory_in c.args.machine.now.store) _ _ (ap what_view c.in-Eval.is)
    c.requires.runs.fits c.requires.typed

pub returns-in-Eval-clause-comes : goal.returns-in-Eval-clause-comes
returns-in-Eval-clause-comes c steps left =
    simple_does c.args.on.now c.args.here _ _ (ap what_view c.in-Eval.is) c.args.s.now.line left
    (state_in c.args.machine.now) c.args.stack.now.items _ (c.eval.ensures.comes left)

pub assign-requires-clause-typed : goal.assign-requires-clause-typed
assign-requires-clause-typed c =
    simple_fits c.args.on.now c.args.here (memory_in c.args.machine.now.store) _ _ (ap what_view c.in-Assign.is)
    c.requires.runs.fits c.requires.typed

pub returns-in-Assign-clause-comes : goal.returns-in-Assign-clause-comes
returns-in-Assign-clause-comes c steps left =
    simple_does c.args.on.now c.args.here _ _ (ap what_view c.in-Assign.is) c.args.s.now.line left
    (state_in c.args.machine.now) c.args.stack.now.items _ (c.assign.ensures.comes left)

pub clear-requires-clause-typed : goal.clear-requires-clause-typed
clear-requires-clause-typed c =
    simple_fits c.args.on.now c.args.here (memory_in c.args.machine.now.store) _ _ (ap what_view c.in-Clear.is)
    c.requires.runs.fits c.requires.typed

pub returns-in-Clear-clause-comes : goal.returns-in-Clear-clause-comes
returns-in-Clear-clause-comes c =
    IfOk-weaker c.clear.result _ _ (λ n comes steps left.
    simple_does c.args.on.now c.args.here _ _ (ap what_view c.in-Clear.is) c.args.s.now.line left
    (state_in c.args.machine.now) c.args.stack.now.items _ (comes left)) c.clear.ensures.comes

pub copy_aggregate-requires-clause-typed : goal.copy_aggregate-requires-clause-typed
copy_aggregate-requires-clause-typed c =
    simple_fits c.args.on.now c.args.here (memory_in c.args.machine.now.store) _ _ (ap what_view c.in-CopyAggregate.is)
    c.requires.runs.fits c.requires.typed

pub returns-in-CopyAggregate-clause-comes : goal.returns-in-CopyAggregate-clause-comes
returns-in-CopyAggregate-clause-comes c steps left =
    simple_does c.args.on.now c.args.here _ _ (ap what_view c.in-CopyAggregate.is) c.args.s.now.line left
    (state_in c.args.machine.now) c.args.stack.now.items _ (c.copy_aggregate.ensures.comes left)

pub copy_bytes-requires-clause-typed : goal.copy_bytes-requires-clause-typed
copy_bytes-requires-clause-typed c =
    simple_fits c.args.on.now c.args.here (memory_in c.args.machine.now.store) _ _ (ap what_view c.in-CopyBytes.is)
    c.requires.runs.fits c.requires.typed

pub returns-in-CopyBytes-clause-comes : goal.returns-in-CopyBytes-clause-comes
returns-in-CopyBytes-clause-comes c steps left =
    simple_does c.args.on.now c.args.here _ _ (ap what_view c.in-CopyBytes.is) c.args.s.now.line left
    (state_in c.args.machine.now) c.args.stack.now.items _ (c.copy_bytes.ensures.comes left)

pub fill-requires-clause-typed : goal.fill-requires-clause-typed
fill-requires-clause-typed c =
    simple_fits c.args.on.now c.args.here (memory_in c.args.machine.now.store) _ _ (ap what_view c.in-Fill.is)
    c.requires.runs.fits c.requires.typed

pub returns-in-Fill-clause-comes : goal.returns-in-Fill-clause-comes
returns-in-Fill-clause-comes c steps left =
    simple_does c.args.on.now c.args.here _ _ (ap what_view c.in-Fill.is) c.args.s.now.line left
    (state_in c.args.machine.now) c.args.stack.now.items _ (c.fill.ensures.comes left)

pub input-requires-clause-typed : goal.input-requires-clause-typed
input-requires-clause-typed c =
    simple_fits c.args.on.now c.args.here (memory_in c.args.machine.now.store) _ _ (ap what_view c.in-Input.is)
    c.requires.runs.fits c.requires.typed

pub returns-in-Input-clause-comes : goal.returns-in-Input-clause-comes
returns-in-Input-clause-comes c steps left =
    simple_does c.args.on.now c.args.here _ _ (ap what_view c.in-Input.is) c.args.s.now.line left
    (state_in c.args.machine.now) c.args.stack.now.items _ (c.input.ensures.comes left)

pub output-requires-clause-typed : goal.output-requires-clause-typed
output-requires-clause-typed c =
    simple_fits c.args.on.now c.args.here (memory_in c.args.machine.now.store) _ _ (ap what_view c.in-Output.is)
    c.requires.runs.fits c.requires.typed

pub returns-in-Output-clause-comes : goal.returns-in-Output-clause-comes
returns-in-Output-clause-comes c =
    IfOk-weaker c.output.result _ _ (λ n comes steps left.
    simple_does c.args.on.now c.args.here _ _ (ap what_view c.in-Output.is) c.args.s.now.line left
    (state_in c.args.machine.now) c.args.stack.now.items _ (comes left)) c.output.ensures.comes

pub read_bytes-requires-clause-typed : goal.read_bytes-requires-clause-typed
read_bytes-requires-clause-typed c =
    simple_fits c.args.on.now c.args.here (memory_in c.args.machine.now.store) _ _ (ap what_view c.in-ReadBytes.is)
    c.requires.runs.fits c.requires.typed

pub returns-in-ReadBytes-clause-comes : goal.returns-in-ReadBytes-clause-comes
returns-in-ReadBytes-clause-comes c steps left =
    simple_does c.args.on.now c.args.here _ _ (ap what_view c.in-ReadBytes.is) c.args.s.now.line left
    (state_in c.args.machine.now) c.args.stack.now.items _ (c.read_bytes.ensures.comes left)

pub write_bytes-requires-clause-typed : goal.write_bytes-requires-clause-typed
write_bytes-requires-clause-typed c =
    simple_fits c.args.on.now c.args.here (memory_in c.args.machine.now.store) _ _ (ap what_view c.in-WriteBytes.is)
    c.requires.runs.fits c.requires.typed

pub returns-in-WriteBytes-clause-comes : goal.returns-in-WriteBytes-clause-comes
returns-in-WriteBytes-clause-comes c =
    IfOk-weaker c.write_bytes.result _ _ (λ n comes steps left.
    simple_does c.args.on.now c.args.here _ _ (ap what_view c.in-WriteBytes.is) c.args.s.now.line left
    (state_in c.args.machine.now) c.args.stack.now.items _ (comes left)) c.write_bytes.ensures.comes

pub returns-in-Nothing-clause-comes : goal.returns-in-Nothing-clause-comes
returns-in-Nothing-clause-comes c steps left =
    simple_does c.args.on.now c.args.here _ _ (ap what_view c.in-Nothing.is) c.args.s.now.line left
    (state_in c.args.machine.now) c.args.stack.now.items _ refl

pub returns-in-Break-clause-comes : goal.returns-in-Break-clause-comes
returns-in-Break-clause-comes c steps left =
    ap (λ w. piled c.args.on.now c.args.stack.now.items (one_of c.args.on.now c.args.here (what_view w)
    c.args.s.now.line (suc left) (state_in c.args.machine.now))) (sym c.in-Break.is)

pub returns-in-Continue-clause-comes : goal.returns-in-Continue-clause-comes
returns-in-Continue-clause-comes c steps left =
    ap (λ w. piled c.args.on.now c.args.stack.now.items (one_of c.args.on.now c.args.here (what_view w)
    c.args.s.now.line (suc left) (state_in c.args.machine.now))) (sym c.in-Continue.is)

pub give_back-requires-clause-typed : goal.give_back-requires-clause-typed
give_back-requires-clause-typed c =
    let m = c.args.on.now in
    let x = memory_in c.args.machine.now.store in
    subst (λ r. ReturnFits m.order (program_in m) x r (option_map expr_view c.in-Return.e)) (sym c.result_of.ensures)
    (simple_fits m c.args.here x _ _ (ap what_view c.in-Return.is) c.requires.runs.fits c.requires.typed)

pub returns-in-Return-clause-comes : goal.returns-in-Return-clause-comes
returns-in-Return-clause-comes c steps left =
    let m = c.args.on.now in
    simple_does m c.args.here _ _ (ap what_view c.in-Return.is) c.args.s.now.line left
    (state_in c.args.machine.now) c.args.stack.now.items _
    (c.give_back.ensures.comes left
    ∙ ap (λ r. returned_with m.order (program_in m) r (option_map expr_view c.in-Return.e) c.args.s.now.line left
    (state_in c.args.machine.now)) c.result_of.ensures)

pub call-requires-clause-typed : goal.call-requires-clause-typed
call-requires-clause-typed c =
    let m = c.args.on.now in
    subst (λ xs. OneFits m c.args.here (call c.in-Call.k (map expr_view xs) (option_map dest_view c.in-Call.dest)))
    (sym c.deref.ensures.value) (subst (λ w. OneFits m c.args.here (what_view w)) c.in-Call.is c.requires.typed)

pub returns-in-Call-clause-comes : goal.returns-in-Call-clause-comes
returns-in-Call-clause-comes c =
    let m = c.args.on.now in
    let s = state_in c.args.machine.now in
    let fs = c.args.stack.now.items in
    IfOk-weaker c.call.result _ _ (λ n comes steps left. comes left
    ∙ ap (λ xs. piled m fs (one_of m c.args.here (call c.in-Call.k (map expr_view xs)
    (option_map dest_view c.in-Call.dest)) c.args.s.now.line (suc left) s)) c.deref.ensures.value
    ∙ ap (λ w. piled m fs (one_of m c.args.here (what_view w) c.args.s.now.line (suc left) s)) (sym c.in-Call.is))
    c.call.ensures.comes

pub choose-requires-clause-typed : goal.choose-requires-clause-typed
choose-requires-clause-typed c =
    let m = c.args.on.now in
    let h : OneFits m c.args.here (what_view (If c.in-If.e c.in-If.a c.in-If.b))
    = subst (λ w. OneFits m c.args.here (what_view w)) c.in-If.is c.requires.typed in
    if_test m c.args.here c.in-If.e c.in-If.a c.in-If.b h _ c.requires.runs.fits

pub choose-requires-clause-yes : goal.choose-requires-clause-yes
choose-requires-clause-yes c =
    let m = c.args.on.now in
    let h : OneFits m c.args.here (what_view (If c.in-If.e c.in-If.a c.in-If.b))
    = subst (λ w. OneFits m c.args.here (what_view w)) c.in-If.is c.requires.typed in
    (if_fits m c.args.here c.in-If.e c.in-If.a c.in-If.b _ _ c.deref-in-If.ensures.value
    c.deref-in-If-2.ensures.value h).0

pub choose-requires-clause-no : goal.choose-requires-clause-no
choose-requires-clause-no c =
    let m = c.args.on.now in
    let h : OneFits m c.args.here (what_view (If c.in-If.e c.in-If.a c.in-If.b))
    = subst (λ w. OneFits m c.args.here (what_view w)) c.in-If.is c.requires.typed in
    (if_fits m c.args.here c.in-If.e c.in-If.a c.in-If.b _ _ c.deref-in-If.ensures.value
    c.deref-in-If-2.ensures.value h).1

pub returns-in-If-clause-comes : goal.returns-in-If-clause-comes
returns-in-If-clause-comes c =
    let m = c.args.on.now in
    let s = state_in c.args.machine.now in
    IfOk-weaker c.choose.result _ _ (λ n comes steps left.
    ap (piled m c.args.stack.now.items)
    (comes left
    ∙ if_does m c.args.here c.in-If.e c.in-If.a c.in-If.b _ _ c.deref-in-If.ensures.value
    c.deref-in-If-2.ensures.value c.args.s.now.line left s
    ∙ sym (ap (λ w. one_of m c.args.here (what_view w) c.args.s.now.line (suc left) s) c.in-If.is))) c.choose.ensures.comes

pub returns-in-Loop-clause-comes : goal.returns-in-Loop-clause-comes
returns-in-Loop-clause-comes c =
    let m = c.args.on.now in
    let s = state_in c.args.machine.now in
    IfOk-weaker c.begin_loop.result _ _ (λ n comes steps left. comes m left s
    ∙ ap (piled m c.args.stack.now.items)
    (loop_does m c.args.here c.in-Loop.tests_first c.in-Loop.e c.in-Loop.a c.in-Loop.b c.deref-in-Loop.result.now
    c.deref-in-Loop-2.result.now c.deref-in-Loop.ensures.value c.deref-in-Loop-2.ensures.value c.args.s.now.line left s
    ∙ sym (ap (λ w. one_of m c.args.here (what_view w) c.args.s.now.line (suc left) s) c.in-Loop.is))) c.begin_loop.ensures.comes

pub returns-in-Loop-clause-fits : goal.returns-in-Loop-clause-fits
returns-in-Loop-clause-fits c =
    let m = c.args.on.now in
    let h : OneFits m c.args.here (what_view (Loop c.in-Loop.tests_first c.in-Loop.e c.in-Loop.a c.in-Loop.b))
    = subst (λ w. OneFits m c.args.here (what_view w)) c.in-Loop.is c.requires.typed in
    let k = loop_fits m c.args.here c.in-Loop.tests_first c.in-Loop.e c.in-Loop.a c.in-Loop.b
    c.deref-in-Loop.result.now c.deref-in-Loop-2.result.now c.deref-in-Loop.ensures.value c.deref-in-Loop-2.ensures.value h in
    IfOk-weaker c.begin_loop.result _ _ (λ n fits. (fits m (record {
      test = loop_test m c.args.here c.in-Loop.tests_first c.in-Loop.e c.in-Loop.a c.in-Loop.b h;
      body = k.0;
      next = k.1;
    })).0) c.begin_loop.ensures.fits

pub returns-in-Loop-clause-pile : goal.returns-in-Loop-clause-pile
returns-in-Loop-clause-pile c =
    let m = c.args.on.now in
    let h : OneFits m c.args.here (what_view (Loop c.in-Loop.tests_first c.in-Loop.e c.in-Loop.a c.in-Loop.b))
    = subst (λ w. OneFits m c.args.here (what_view w)) c.in-Loop.is c.requires.typed in
    let k = loop_fits m c.args.here c.in-Loop.tests_first c.in-Loop.e c.in-Loop.a c.in-Loop.b
    c.deref-in-Loop.result.now c.deref-in-Loop-2.result.now c.deref-in-Loop.ensures.value c.deref-in-Loop-2.ensures.value h in
    IfOk-weaker c.begin_loop.result _ _ (λ n fits. (fits m (record {
      test = loop_test m c.args.here c.in-Loop.tests_first c.in-Loop.e c.in-Loop.a c.in-Loop.b h;
      body = k.0;
      next = k.1;
    })).1) c.begin_loop.ensures.fits

pub choose_arm-requires-clause-yes : goal.choose_arm-requires-clause-yes
choose_arm-requires-clause-yes c =
    let m = c.args.on.now in
    let h : OneFits m c.args.here (what_view (ByOrder c.in-ByOrder.named c.in-ByOrder.a c.in-ByOrder.b))
    = subst (λ w. OneFits m c.args.here (what_view w)) c.in-ByOrder.is c.requires.typed in
    (arm_fits m c.args.here c.in-ByOrder.named c.in-ByOrder.a c.in-ByOrder.b _ _ c.deref-in-ByOrder.ensures.value
    c.deref-in-ByOrder-2.ensures.value h).0

pub choose_arm-requires-clause-no : goal.choose_arm-requires-clause-no
choose_arm-requires-clause-no c =
    let m = c.args.on.now in
    let h : OneFits m c.args.here (what_view (ByOrder c.in-ByOrder.named c.in-ByOrder.a c.in-ByOrder.b))
    = subst (λ w. OneFits m c.args.here (what_view w)) c.in-ByOrder.is c.requires.typed in
    (arm_fits m c.args.here c.in-ByOrder.named c.in-ByOrder.a c.in-ByOrder.b _ _ c.deref-in-ByOrder.ensures.value
    c.deref-in-ByOrder-2.ensures.value h).1

pub returns-in-ByOrder-clause-comes : goal.returns-in-ByOrder-clause-comes
returns-in-ByOrder-clause-comes c =
    let m = c.args.on.now in
    let s = state_in c.args.machine.now in
    IfOk-weaker c.choose_arm.result _ _ (λ n comes steps left. comes left
    ∙ ap (piled m c.args.stack.now.items)
    (arm_does m c.args.here c.in-ByOrder.named c.in-ByOrder.a c.in-ByOrder.b c.deref-in-ByOrder.result.now
    c.deref-in-ByOrder-2.result.now c.deref-in-ByOrder.ensures.value c.deref-in-ByOrder-2.ensures.value
    c.args.s.now.line left s
    ∙ sym (ap (λ w. one_of m c.args.here (what_view w) c.args.s.now.line (suc left) s) c.in-ByOrder.is))) c.choose_arm.ensures.comes
