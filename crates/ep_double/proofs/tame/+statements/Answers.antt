use Rattle.std.proofs.Common.{sym, ◌∙◌, refl}
use Rattle.ep_double.proofs.Whats.{goes_on, stops, call_tame, if_tame, loop_tame, scope_tame}
use Rattle.ep_double.proofs.tame.+statements.Goals as goal

pub is_tame_what-returns-then-are_tame_exprs : goal.is_tame_what-returns-then-are_tame_exprs
is_tame_what-returns-then-are_tame_exprs t c =
    goes_on _ _ _ (sym c.are_tame_exprs.ensures ∙ c.if-are_tame_exprs.true) c.is_tame_dest.ensures
    ∙ sym (call_tame c.args.types.now c.args.what.now c.in-Call.field-0 c.in-Call.es c.in-Call.d c.deref.result.now
    c.in-Call.is c.deref.ensures.value)

pub is_tame_what-returns-else-are_tame_exprs : goal.is_tame_what-returns-else-are_tame_exprs
is_tame_what-returns-else-are_tame_exprs t c =
    stops _ _ _ c.are_tame_exprs.ensures c.if-are_tame_exprs.false
    ∙ sym (call_tame c.args.types.now c.args.what.now c.in-Call.field-0 c.in-Call.es c.in-Call.d c.deref.result.now
    c.in-Call.is c.deref.ensures.value)

pub is_tame_what-returns-then-are_tame : goal.is_tame_what-returns-then-are_tame
is_tame_what-returns-then-are_tame t c =
    goes_on _ _ _ (sym c.is_tame_expr-in-If.ensures ∙ c.if-is_tame_expr.true)
    (goes_on _ _ _ (sym c.are_tame.ensures ∙ c.if-are_tame.true) c.are_tame-then-are_tame.ensures)
    ∙ sym (if_tame c.args.types.now c.args.what.now c.in-If.e c.in-If.a c.in-If.b c.deref-then-is_tame_expr.result.now
    c.deref-then-are_tame.result.now c.in-If.is c.deref-then-is_tame_expr.ensures.value
    c.deref-then-are_tame.ensures.value)

pub is_tame_what-returns-else-are_tame : goal.is_tame_what-returns-else-are_tame
is_tame_what-returns-else-are_tame t c =
    goes_on _ _ _ (sym c.is_tame_expr-in-If.ensures ∙ c.if-is_tame_expr.true)
    (stops _ _ _ c.are_tame.ensures c.if-are_tame.false)
    ∙ sym (if_tame c.args.types.now c.args.what.now c.in-If.e c.in-If.a c.in-If.b c.deref-then-is_tame_expr.result.now
    c.in-If.b.items c.in-If.is c.deref-then-is_tame_expr.ensures.value refl)

pub is_tame_what-returns-then-are_tame-2 : goal.is_tame_what-returns-then-are_tame-2
is_tame_what-returns-then-are_tame-2 t c =
    goes_on _ _ _ (sym c.is_tame_expr-in-Loop.ensures ∙ c.if-is_tame_expr-2.true)
    (goes_on _ _ _ (sym c.are_tame-then-is_tame_expr-2.ensures ∙ c.if-are_tame-2.true)
    c.are_tame-then-are_tame-2.ensures)
    ∙ sym (loop_tame c.args.types.now c.args.what.now c.in-Loop.field-0 c.in-Loop.e c.in-Loop.a c.in-Loop.b
    c.deref-then-is_tame_expr-2.result.now c.deref-then-are_tame-2.result.now c.in-Loop.is
    c.deref-then-is_tame_expr-2.ensures.value c.deref-then-are_tame-2.ensures.value)

pub is_tame_what-returns-else-are_tame-2 : goal.is_tame_what-returns-else-are_tame-2
is_tame_what-returns-else-are_tame-2 t c =
    goes_on _ _ _ (sym c.is_tame_expr-in-Loop.ensures ∙ c.if-is_tame_expr-2.true)
    (stops _ _ _ c.are_tame-then-is_tame_expr-2.ensures c.if-are_tame-2.false)
    ∙ sym (loop_tame c.args.types.now c.args.what.now c.in-Loop.field-0 c.in-Loop.e c.in-Loop.a c.in-Loop.b
    c.deref-then-is_tame_expr-2.result.now c.in-Loop.b.items c.in-Loop.is c.deref-then-is_tame_expr-2.ensures.value
    refl)

pub is_tame_what-returns-in-Scope : goal.is_tame_what-returns-in-Scope
is_tame_what-returns-in-Scope t c =
    c.are_tame-in-Scope.ensures
    ∙ sym (scope_tame c.args.types.now c.args.what.now c.in-Scope.field-0 c.in-Scope.a c.deref-in-Scope.result.now
    c.in-Scope.is c.deref-in-Scope.ensures.value)
