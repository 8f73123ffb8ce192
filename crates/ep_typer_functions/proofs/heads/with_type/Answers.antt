use Rattle.ep_scopes.specs.View.{env}
use Rattle.ep_declared.proofs.Growth.{table_known}
use Rattle.ep_typer_functions.proofs.heads.with_type.Goals as goal

pub returns-clause-known : goal.returns-clause-known
returns-clause-known c = table_known (env c.args.env.now) c.add.new.types c.in_ok-add.ensures.grown c.requires.known
