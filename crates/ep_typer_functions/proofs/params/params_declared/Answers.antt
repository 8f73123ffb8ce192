use Rattle.std.proofs.Common.{rules}
use Rattle.std.specs.Global.{Vec}
use Rattle.std.proofs.lemmas.Result.{err_from_is_err_and}
use Rattle.ep_typing.specs.declared.types.CType.{CType}
use Rattle.ep_typing.specs.Env.{Env}
use Rattle.ep_scopes.specs.Comes.{Comes}
use Rattle.ep_scopes.specs.View.{env}
use Rattle.ep_scopes.proofs.Coming.{comes_itself, comes_on}
use Rattle.ep_declared.proofs.Answering.{on_stop}
use Rattle.ep_typer_functions.proofs.ParamLemmas.{declared, went}
use Rattle.ep_typer_functions.proofs.params.params_declared.Goals as goal

pub loop-tree-init : goal.loop-tree-init
loop-tree-init c = record { known = search rules; means = search rules; comes = comes_itself (env c.args.env.now) }

pub returns-in_err-c-clause-comes : goal.returns-in_err-c-clause-comes
returns-in_err-c-clause-comes c =
    let p = err_from_is_err_and c.from_residual.result c.from_residual.ensures.1 in
    let G : Env = env c.args.env.now in
    let H : Env = env c.loop-tree.env in
    let I : Env = env c.param_declared.new.env in
    rw (p.1, p.2) (on_stop CType (Vec CType) _ (Comes H I) (Comes G I) (comes_on G H I c.loop-tree.invariant.comes)
    c.in_err-c.ensures.comes)

pub loop-tree-preserved : goal.loop-tree-preserved
loop-tree-preserved c = record {
  known = search rules;
  means = rw (c.in_ok-push.ensures.items, c.in_ok-block.ensures.next) (went (env c.loop-tree.env) c.loop-tree.block
      c.loop-tree.tree-index c.args.list.now c.tree-item.result c.loop-tree.all.items
      (declared (env c.args.env.now) c.args.first c.args.list.now) c.loop-tree-test.true c.tree-item.is
      c.loop-tree.invariant.means c.in_ok-c.c (env c.param_declared.new.env) c.in_ok-c.ensures.means);
  comes = comes_on (env c.args.env.now) (env c.loop-tree.env) (env c.param_declared.new.env) c.loop-tree.invariant.comes
      c.in_ok-c.ensures.comes;
}
