use Rattle.std.proofs.Common.{List, [], ◌∷◌, map, refl, ap, ◌∙◌}
use Rattle.ep_ast.specs.declared.statements.FunctionTree.{FunctionTree}
use Rattle.ep_ast.specs.Statement.{function_of}
use Rattle.ep_elaboration.specs.Calls.{calls_none, conditionals}
use Rattle.ep_scopes.specs.View.{env}
use Rattle.ep_typer_checks.specs.View.{number, call_site_of}
use Rattle.ep_typer_checks.proofs.Adding.{more, over, with_name}
use Rattle.ep_typer_checks.proofs.text.conditionals.Goals as goal

pub loop-function-preserved : goal.loop-function-preserved
loop-function-preserved c =
    more (call_site_of (number (env c.args.env.now))) (λ (x : FunctionTree). conditionals (function_of x ∷ []))
    (λ (xs : List FunctionTree). conditionals (map function_of xs)) c.args.list.now c.args.all.now.items c.loop-function.all.items
    c.enter.new.all.items (conditionals (map function_of c.args.list.now)) c.loop-function.function-index c.function-item.result
    c.loop-function-test.true c.function-item.is refl c.loop-function.invariant
    (with_name (number (env c.args.env.now)) c.function-item.result.head.name.items c.in_ok-caller.caller c.loop-function.all.items
    c.enter.new.all.items (calls_none 1 ∷ []) (c.in_ok-caller.ensures.means ∙ ap (number (env c.args.env.now)) c.deref.ensures.value)
    (c.in_ok-enter.ensures.adds (number (env c.args.env.now))))

pub returns : goal.returns
returns c =
    over (call_site_of (number (env c.args.env.now))) (λ (x : FunctionTree). conditionals (function_of x ∷ []))
    (λ (xs : List FunctionTree). conditionals (map function_of xs)) c.args.list.now c.args.all.now.items c.loop-function.all.items
    (conditionals (map function_of c.args.list.now)) c.loop-function.function-index c.loop-function-test.false refl c.loop-function.invariant
