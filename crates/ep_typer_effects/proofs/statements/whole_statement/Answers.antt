use Rattle.std.proofs.Common.{Bool, ap, ◌∙◌}
use Rattle.ep_ast.specs.Expression as source
use Rattle.ep_ast.specs.Mark.{mark_number}
use Rattle.ep_core.specs.View.{what_view}
use Rattle.ep_stores.proofs.StoreLemmas.{same_gives}
use Rattle.ep_scopes.specs.View.{env}
use Rattle.ep_typing.specs.Typing.{whole_statement}
use Rattle.ep_typer_effects.proofs.Shapes.{a_call_alone, a_decrement, a_step, an_increment, called_tree}
use Rattle.ep_typer_effects.proofs.Shapes.{decrement_tree, increment_tree, step_tree}
use Rattle.ep_typer_effects.proofs.statements.whole_statement.Goals as goal

pub returns-in-Step : goal.returns-in-Step
returns-in-Step c =
    let t = c.args.tree.now in
    let f = c.deref-in-Step.result.now in
    same_gives what_view _ _ c.stepped.result
    (a_step (env c.args.env.now) c.args.may_call (source.expr t) (source.expr f) c.in-Step.line
    (mark_number c.in-Step.mark) (mark_number c.step_mark.result)
    (step_tree c.in-Step.line c.in-Step.mark t f c.in-Step.a c.in-Step.is c.deref-in-Step.ensures) c.step_mark.ensures.is
    c.step_mark.ensures.other)
    c.stepped.ensures

pub returns-in-PostIncrement : goal.returns-in-PostIncrement
returns-in-PostIncrement c =
    let t = c.args.tree.now in
    let f = c.deref-in-PostIncrement.result.now in
    same_gives what_view _ _ c.stepped-in-PostIncrement.result
    (an_increment (env c.args.env.now) c.args.may_call (source.expr t) (source.expr f) c.in-PostIncrement.line
    (increment_tree c.in-PostIncrement.line t f c.in-PostIncrement.a c.in-PostIncrement.is c.deref-in-PostIncrement.ensures))
    c.stepped-in-PostIncrement.ensures

pub returns-in-PostDecrement : goal.returns-in-PostDecrement
returns-in-PostDecrement c =
    let t = c.args.tree.now in
    let f = c.deref-in-PostDecrement.result.now in
    same_gives what_view _ _ c.stepped-in-PostDecrement.result
    (a_decrement (env c.args.env.now) c.args.may_call (source.expr t) (source.expr f) c.in-PostDecrement.line
    (decrement_tree c.in-PostDecrement.line t f c.in-PostDecrement.a c.in-PostDecrement.is c.deref-in-PostDecrement.ensures))
    c.stepped-in-PostDecrement.ensures

pub returns-then-may_call : goal.returns-then-may_call
returns-then-may_call c =
    let G = env c.args.env.now in
    let t = c.args.tree.now in
    let f = c.deref-then-may_call.result.now in
    same_gives what_view _ _ c.called_alone.result
    (ap (λ (b : Bool). whole_statement G b (source.expr t)) c.if-may_call.true
    ∙ a_call_alone G (source.expr t) (source.expr f) c.in-Call.line _
    (called_tree c.in-Call.line t f c.in-Call.f c.in-Call.list c.deref-then-may_call-2.result.now c.in-Call.is c.deref-then-may_call.ensures
    c.deref-then-may_call-2.ensures.value))
    c.called_alone.ensures
