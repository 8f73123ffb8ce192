use Rattle.std.proofs.Common.{true, Bool, ap, ◌∙◌}
use Rattle.ep_ast.specs.Expression as source
use Rattle.ep_stores.proofs.StoreLemmas.{same_gives}
use Rattle.ep_scopes.specs.View.{env}
use Rattle.ep_typing.specs.Typing.{right_side}
use Rattle.ep_typer_effects.specs.View as view
use Rattle.ep_typer_effects.proofs.Others.{no_call}
use Rattle.ep_typer_effects.proofs.Shapes.{called_tree}
use Rattle.ep_typer_effects.proofs.right.right_side.Goals as goal

pub returns-in_default : goal.returns-in_default
returns-in_default c =
    let G = env c.args.env.now in
    same_gives view.right _ _ c.object_side-in_default.result
    (ap (λ (b : Bool). right_side G b (source.expr c.args.tree.now)) c.if-not-may_call.false ∙ no_call G c.args.tree.now c.in_default.not-Call)
    c.object_side-in_default.ensures

pub returns-in-Call : goal.returns-in-Call
returns-in-Call c =
    let G = env c.args.env.now in
    same_gives view.right _ _ c.result_side.result
    (ap (λ (b : Bool). right_side G b (source.expr c.args.tree.now)) c.if-not-may_call.false
    ∙ ap (right_side G true) (called_tree c.in-Call.line c.args.tree.now c.deref.result.now c.in-Call.f c.in-Call.list c.deref-in-Call.result.now
    c.in-Call.is c.deref.ensures c.deref-in-Call.ensures.value))
    c.result_side.ensures
