use Rattle.std.proofs.Common.{arith, sym}
use Rattle.ep_core.specs.ProgramView.{program_view}
use Rattle.ep_kinds.specs.InOut.{comes_to, is_talk}
use Rattle.ep_double.specs.Remembered.{called}
use Rattle.ep_double.proofs.Called.{none_called, fewer, no_body, its_body}
use Rattle.ep_double.proofs.Deeper.{called_before}
use Rattle.ep_double.proofs.Formed.{by_if, by_loop, by_arms, by_scope}
use Rattle.ep_double.proofs.closed.+talking.Goals as goal

pub talks_called-returns-then-k-c : goal.talks_called-returns-then-k-c
talks_called-returns-then-k-c t c =
    none_called (program_view c.args.c.now.program.now) c.args.c.now.here c.args.k (omega (arith, c.if-k-c.true))

pub talks_called-invariant_of-before : goal.talks_called-invariant_of-before
talks_called-invariant_of-before t c = record {
  right = fewer (program_view c.args.c.now.program.now) c.args.c.now.here c.args.k c.args.c.now.talks.now c.args.c.now.right
      (omega (arith, c.if-k-c.false));
}

pub talks_called-list_talks-requires : goal.talks_called-list_talks-requires
talks_called-list_talks-requires t c =
    let e = sym (rw c.in-Some.is at c.function_at.ensures) in
    let i = called_before c.args.c.now.program.now.functions.items c.args.k c.args.c.now.here c.in-Some.f.now
    c.deref.result.now e (omega (arith, c.if-k-c.false)) c.deref.ensures.value in (omega (arith, i), tt)

pub talks_called-returns-in-None : goal.talks_called-returns-in-None
talks_called-returns-in-None t c =
    let e = sym (rw c.in-None.is at c.function_at.ensures) in
    no_body c.args.c.now.program.now c.args.c.now.here c.args.k (omega (arith, c.if-k-c.false)) e

pub talks_called-returns-in-Some : goal.talks_called-returns-in-Some
talks_called-returns-in-Some t c =
    let e = sym (rw c.in-Some.is at c.function_at.ensures) in
    its_body c.args.c.now.program.now c.args.c.now.here c.args.k c.in-Some.f.now c.deref.result.now
    c.list_talks.result (omega (arith, c.if-k-c.false)) e c.deref.ensures.value c.list_talks.ensures

pub talks_stmt-returns-in-If : goal.talks_stmt-returns-in-If
talks_stmt-returns-in-If t c =
    by_if (comes_to is_talk (called (program_view c.args.c.now.program.now) c.args.c.now.here)) c.args.s.now.what
    c.two_talk.result c.in-If.field-0 c.in-If.a c.in-If.b c.deref.result.now c.deref-in-If.result.now c.in-If.is
    c.deref.ensures.value c.deref-in-If.ensures.value c.two_talk.ensures

pub talks_stmt-returns-in-Loop : goal.talks_stmt-returns-in-Loop
talks_stmt-returns-in-Loop t c =
    by_loop (comes_to is_talk (called (program_view c.args.c.now.program.now) c.args.c.now.here)) c.args.s.now.what
    c.two_talk-in-Loop.result c.in-Loop.field-0 c.in-Loop.field-1 c.in-Loop.a c.in-Loop.b c.deref-in-Loop.result.now
    c.deref-in-Loop-2.result.now c.in-Loop.is c.deref-in-Loop.ensures.value c.deref-in-Loop-2.ensures.value
    c.two_talk-in-Loop.ensures

pub talks_stmt-returns-in-ByOrder : goal.talks_stmt-returns-in-ByOrder
talks_stmt-returns-in-ByOrder t c =
    by_arms (comes_to is_talk (called (program_view c.args.c.now.program.now) c.args.c.now.here)) c.args.s.now.what
    c.two_talk-in-ByOrder.result c.in-ByOrder.field-0 c.in-ByOrder.a c.in-ByOrder.b c.deref-in-ByOrder.result.now
    c.deref-in-ByOrder-2.result.now c.in-ByOrder.is c.deref-in-ByOrder.ensures.value
    c.deref-in-ByOrder-2.ensures.value c.two_talk-in-ByOrder.ensures

pub talks_stmt-returns-in-Scope : goal.talks_stmt-returns-in-Scope
talks_stmt-returns-in-Scope t c =
    by_scope (comes_to is_talk (called (program_view c.args.c.now.program.now) c.args.c.now.here)) c.args.s.now.what
    c.list_talks.result c.in-Scope.field-0 c.in-Scope.a c.deref-in-Scope.result.now c.in-Scope.is
    c.deref-in-Scope.ensures.value c.list_talks.ensures
