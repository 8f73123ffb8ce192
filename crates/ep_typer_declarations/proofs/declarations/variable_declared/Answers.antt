use Rattle.std.proofs.lemmas.Result.{on_ok_weaker}
use Rattle.ep_layout.proofs.Basics.{grows-trans}
use Rattle.ep_scopes.specs.View.{env}
use Rattle.ep_typer_declarations.proofs.declarations.variable_declared.Goals as goal

pub returns-clause-grown : goal.returns-clause-grown
returns-clause-grown c =
    on_ok_weaker c.initialised.result
    (grows-trans (env c.args.env.now).types (env c.object_declared.new.env).types (env c.initialised.new.env).types c.in_ok-x.ensures.grown)
    c.initialised.ensures.grown
