use Rattle.std.proofs.Common.{List, map, refl}
use Rattle.ep_ast.specs.declared.declarations.InitTree.{InitTree}
use Rattle.ep_ast.specs.Declaration.{init_of}
use Rattle.ep_elaboration.specs.Calls.{initialisation, initialisations}
use Rattle.ep_scopes.specs.View.{env}
use Rattle.ep_typer_checks.specs.View.{number, call_site}
use Rattle.ep_typer_checks.proofs.Adding.{more, over}
use Rattle.ep_typer_checks.proofs.stands.initialisations.Goals as goal

pub loop-init-preserved : goal.loop-init-preserved
loop-init-preserved c =
    more (call_site (number (env c.args.env.now)) c.args.caller) (λ (x : InitTree). initialisation c.args.depth (init_of x).value)
    (λ (xs : List InitTree). initialisations c.args.depth (map init_of xs)) c.args.inits.now c.args.all.now.items c.loop-init.all.items
    c.initialisation.new.all.items (initialisations c.args.depth (map init_of c.args.inits.now)) c.loop-init.init-index c.init-item.result
    c.loop-init-test.true c.init-item.is refl c.loop-init.invariant c.in_ok-initialisation.ensures

pub returns : goal.returns
returns c =
    over (call_site (number (env c.args.env.now)) c.args.caller) (λ (x : InitTree). initialisation c.args.depth (init_of x).value)
    (λ (xs : List InitTree). initialisations c.args.depth (map init_of xs)) c.args.inits.now c.args.all.now.items c.loop-init.all.items
    (initialisations c.args.depth (map init_of c.args.inits.now)) c.loop-init.init-index c.loop-init-test.false refl c.loop-init.invariant
