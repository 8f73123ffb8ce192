use Rattle.ep_core.specs.ProgramView.{program_view}
use Rattle.ep_kinds.specs.Closed.{is_closed_what}
use Rattle.ep_double.specs.Remembered.{called}
use Rattle.ep_double.proofs.Formed.{by_if, by_loop, by_arms, by_scope}
use Rattle.ep_double.proofs.closed.+closed.Goals as goal

pub is_closed_stmt-returns-in-If : goal.is_closed_stmt-returns-in-If
is_closed_stmt-returns-in-If t c =
    by_if (is_closed_what (called (program_view c.args.c.now.program.now) c.args.c.now.here)) c.args.s.now.what
    c.two_are_closed.result c.in-If.field-0 c.in-If.a c.in-If.b c.deref.result.now c.deref-in-If.result.now
    c.in-If.is c.deref.ensures.value c.deref-in-If.ensures.value c.two_are_closed.ensures

pub is_closed_stmt-returns-in-Loop : goal.is_closed_stmt-returns-in-Loop
is_closed_stmt-returns-in-Loop t c =
    by_loop (is_closed_what (called (program_view c.args.c.now.program.now) c.args.c.now.here)) c.args.s.now.what
    c.two_are_closed-in-Loop.result c.in-Loop.field-0 c.in-Loop.field-1 c.in-Loop.a c.in-Loop.b
    c.deref-in-Loop.result.now c.deref-in-Loop-2.result.now c.in-Loop.is c.deref-in-Loop.ensures.value
    c.deref-in-Loop-2.ensures.value c.two_are_closed-in-Loop.ensures

pub is_closed_stmt-returns-in-ByOrder : goal.is_closed_stmt-returns-in-ByOrder
is_closed_stmt-returns-in-ByOrder t c =
    by_arms (is_closed_what (called (program_view c.args.c.now.program.now) c.args.c.now.here)) c.args.s.now.what
    c.arms_are_closed.result c.in-ByOrder.field-0 c.in-ByOrder.a c.in-ByOrder.b c.deref-in-ByOrder.result.now
    c.deref-in-ByOrder-2.result.now c.in-ByOrder.is c.deref-in-ByOrder.ensures.value
    c.deref-in-ByOrder-2.ensures.value c.arms_are_closed.ensures

pub is_closed_stmt-returns-in-Scope : goal.is_closed_stmt-returns-in-Scope
is_closed_stmt-returns-in-Scope t c =
    by_scope (is_closed_what (called (program_view c.args.c.now.program.now) c.args.c.now.here)) c.args.s.now.what
    c.list_is_closed.result c.in-Scope.field-0 c.in-Scope.a c.deref-in-Scope.result.now c.in-Scope.is
    c.deref-in-Scope.ensures.value c.list_is_closed.ensures
