use Rattle.std.proofs.Common.{List, map, refl}
use Rattle.ep_ast.specs.declared.statements.FunctionTree.{FunctionTree}
use Rattle.ep_ast.specs.Statement.{function_of}
use Rattle.ep_elaboration.specs.Calls.{in_function, in_functions}
use Rattle.ep_scopes.specs.View.{env}
use Rattle.ep_typer_checks.specs.View.{number, call_site_of}
use Rattle.ep_typer_checks.proofs.Adding.{more, over}
use Rattle.ep_typer_checks.proofs.text.in_functions.Goals as goal

pub loop-function-preserved : goal.loop-function-preserved
loop-function-preserved c =
    more (call_site_of (number (env c.args.env.now))) (λ (x : FunctionTree). in_function c.args.round (function_of x))
    (λ (xs : List FunctionTree). in_functions c.args.round (map function_of xs)) c.args.list.now c.args.all.now.items c.loop-function.all.items
    c.in_function.new.all.items (in_functions c.args.round (map function_of c.args.list.now)) c.loop-function.function-index c.function-item.result
    c.loop-function-test.true c.function-item.is refl c.loop-function.invariant c.in_ok-in_function.ensures

pub returns : goal.returns
returns c =
    over (call_site_of (number (env c.args.env.now))) (λ (x : FunctionTree). in_function c.args.round (function_of x))
    (λ (xs : List FunctionTree). in_functions c.args.round (map function_of xs)) c.args.list.now c.args.all.now.items c.loop-function.all.items
    (in_functions c.args.round (map function_of c.args.list.now)) c.loop-function.function-index c.loop-function-test.false refl c.loop-function.invariant
