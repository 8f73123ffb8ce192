use Rattle.std.proofs.Common.{drop, map}
use Rattle.ep_ast.specs.Declaration.{init_of}
use Rattle.ep_elaboration.specs.Calls.{initialisations}
use Rattle.ep_scopes.specs.View.{env}
use Rattle.ep_typer_checks.specs.View.{number, call_site}
use Rattle.ep_typer_checks.proofs.Adding.{Goes}
use Rattle.ep_typer_checks.proofs.stands.initialisations.Given as goal

abbrev pub invariant-loop-init : goal.invariant-loop-init
invariant-loop-init l =
    Goes (call_site (number (env l.env)) l.caller) l.fn.all.items l.all.items
    (initialisations l.depth (map init_of (drop l.init-index l.inits))) (initialisations l.depth (map init_of l.inits))
