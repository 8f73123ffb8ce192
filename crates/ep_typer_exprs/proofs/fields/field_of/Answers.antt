use Rattle.std.proofs.Common.{sym}
use Rattle.ep_ast.specs.Expression as source
use Rattle.ep_scopes.specs.View.{env}
use Rattle.ep_typer_exprs.proofs.FieldLemmas.{names_none, other}
use Rattle.ep_typer_exprs.proofs.fields.field_of.Goals as goal

pub returns-then-is_empty-clause-is : goal.returns-then-is_empty-clause-is
returns-then-is_empty-clause-is c =
    sym (names_none (env c.args.env.now) (source.expr c.args.tree.now) (c.is_empty.ensures.0 c.if-is_empty.true))

pub returns-in_default-clause-is : goal.returns-in_default-clause-is
returns-in_default-clause-is c =
    sym (other (env c.args.env.now) c.args.tree.now c.in_default.not-Member c.in_default.not-Arrow)
