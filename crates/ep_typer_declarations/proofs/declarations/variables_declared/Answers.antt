use Rattle.std.proofs.lemmas.Result.{err_from_is_err_and}
use Rattle.ep_declared.proofs.Growth.{type_known}
use Rattle.ep_elaboration.specs.Declarations.{lined}
use Rattle.ep_given.specs.View.{given}
use Rattle.ep_scopes.specs.View.{env}
use Rattle.ep_typer_declarations.specs.View as view
use Rattle.ep_typer_declarations.proofs.VariableLemmas.{none_left, stopped, went}
use Rattle.ep_typer_declarations.proofs.declarations.variables_declared.Goals as goal

pub loop-init-preserved : goal.loop-init-preserved
loop-init-preserved c = record {
  known = c.in_ok-given.ensures.known;
  inside = type_known (env c.loop-init.env).types (env c.variable_declared.new.env).types c.in_ok-given.ensures.grown c.args.c
      c.loop-init.invariant.inside;
  means = rw c.in_ok-add.ensures (went (env c.loop-init.env) c.args.global c.args.may_call c.args.c c.loop-init.init-index c.args.inits.now
      c.init-item.result (view.made c.loop-init.made) _ c.loop-init-test.true c.init-item.is c.loop-init.invariant.means
      (lined c.init-item.result.declarator.line (given c.in_ok-given.given)) (env c.variable_declared.new.env) c.in_ok-given.ensures.means);
}

pub returns-in_err-given-clause-means : goal.returns-in_err-given-clause-means
returns-in_err-given-clause-means c =
    let p = err_from_is_err_and c.from_residual.result c.from_residual.ensures.1 in
    rw (p.1, p.2) (stopped (env c.loop-init.env) c.args.global c.args.may_call c.args.c c.loop-init.init-index c.args.inits.now
    c.init-item.result (view.made c.loop-init.made) _ c.loop-init-test.true c.init-item.is c.loop-init.invariant.means _
    c.in_err-given.ensures.means)

pub returns-clause-means : goal.returns-clause-means
returns-clause-means c =
    none_left (env c.loop-init.env) c.args.global c.args.may_call c.args.c c.loop-init.init-index c.args.inits.now
    (view.made c.loop-init.made) _ c.loop-init-test.false c.loop-init.invariant.means
