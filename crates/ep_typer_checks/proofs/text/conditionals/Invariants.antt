use Rattle.std.proofs.Common.{drop, map}
use Rattle.ep_ast.specs.Statement.{function_of}
use Rattle.ep_elaboration.specs.Calls.{conditionals}
use Rattle.ep_scopes.specs.View.{env}
use Rattle.ep_typer_checks.specs.View.{number, call_site_of}
use Rattle.ep_typer_checks.proofs.Adding.{Goes}
use Rattle.ep_typer_checks.proofs.text.conditionals.Given as goal

abbrev pub invariant-loop-function : goal.invariant-loop-function
invariant-loop-function l =
    Goes (call_site_of (number (env l.env))) l.fn.all.items l.all.items (conditionals (map function_of (drop l.function-index l.list)))
    (conditionals (map function_of l.list))
