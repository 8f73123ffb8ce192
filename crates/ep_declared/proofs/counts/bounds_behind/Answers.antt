use Rattle.std.proofs.Common.{refl}
use Rattle.std.proofs.lemmas.Result.{err_from_is_err_and}
use Rattle.ep_scopes.specs.View.{env}
use Rattle.ep_declared.proofs.CountLemmas.{all_bounds, stopped, went}
use Rattle.ep_declared.proofs.Growth.{follows_itself, follows_more}
use Rattle.ep_scopes.proofs.Coming.{comes_itself, comes_on}
use Rattle.ep_declared.proofs.Coming.{come_stop}
use Rattle.ep_declared.proofs.counts.bounds_behind.Goals as goal

pub loop-tree-init : goal.loop-tree-init
loop-tree-init c = record {
  means = refl;
  after = follows_itself (env c.args.env.now) c.requires;
  comes = comes_itself (env c.args.env.now);
}

pub returns-in_err-n-clause-means : goal.returns-in_err-n-clause-means
returns-in_err-n-clause-means c =
    let p = err_from_is_err_and c.from_residual.result c.from_residual.ensures.1 in
    rw (p.1, p.2) (stopped c.loop-tree.tree-index c.args.list.now c.tree-item.result c.loop-tree-test.true
    c.tree-item.is (env c.loop-tree.env)
    c.args.line c.loop-tree.counts.items _ c.loop-tree.invariant.means _ c.in_err-n.ensures.means)

pub loop-tree-preserved : goal.loop-tree-preserved
loop-tree-preserved c = record {
  means = rw c.in_ok-push.ensures.items (went c.loop-tree.tree-index c.args.list.now c.tree-item.result
      c.loop-tree-test.true c.tree-item.is
      (env c.loop-tree.env) c.args.line c.loop-tree.counts.items _ c.loop-tree.invariant.means c.in_ok-n.n (env
      c.bound_if.new.env)
      c.in_ok-n.ensures.means);
  after = follows_more (env c.args.env.now) (env c.loop-tree.env) (env c.bound_if.new.env) c.loop-tree.invariant.after
      c.in_ok-n.ensures.after;
  comes = comes_on (env c.args.env.now) (env c.loop-tree.env) (env c.bound_if.new.env) c.loop-tree.invariant.comes
      c.in_ok-n.ensures.comes;
}

pub returns-clause-means : goal.returns-clause-means
returns-clause-means c =
    all_bounds c.loop-tree.tree-index c.args.list.now (env c.loop-tree.env) c.args.line c.loop-tree.counts.items _
    c.loop-tree-test.false
    c.loop-tree.invariant.means

pub returns-in_err-n-clause-comes : goal.returns-in_err-n-clause-comes
returns-in_err-n-clause-comes c =
    let p = err_from_is_err_and c.from_residual.result c.from_residual.ensures.1 in
    rw (p.1, p.2) (come_stop _ (env c.args.env.now) (env c.loop-tree.env) (env c.bound_if.new.env)
    c.loop-tree.invariant.comes c.in_err-n.ensures.comes)
