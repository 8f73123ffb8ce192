use Rattle.std.proofs.Common.{ap, Some}
use Rattle.ep_ast.specs.Declaration as source
use Rattle.ep_declared.specs.View as objects
use Rattle.ep_elaboration.specs.Given.{value_given}
use Rattle.ep_scopes.specs.View.{env}
use Rattle.ep_typing.specs.Results.{on_statement}
use Rattle.ep_typer_exprs.proofs.Halts.{stops_on_statement}
use Rattle.ep_given.proofs.first.list_begun.Goals as goal

pub returns-in-Ok-clause-means : goal.returns-in-Ok-clause-means
returns-in-Ok-clause-means c = ap (on_statement c.args.line) c.in-Ok.ensures.means

pub returns-in-Err-clause-means : goal.returns-in-Err-clause-means
returns-in-Err-clause-means c =
    rw c.at_statement.ensures (stops_on_statement c.args.line
    (value_given (env c.args.env.now) c.args.global c.args.may_call c.args.line (Some (objects.object c.args.x.now))
    (source.value_of c.args.value.now))
    c.in-Err.halt c.in-Err.ensures.means)
