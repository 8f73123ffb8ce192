use Rattle.std.proofs.Common.{arith}
use Rattle.std.proofs.lemmas.Result.{err_from_is_err_and}
use Rattle.ep_scopes.specs.View.{env}
use Rattle.ep_typer_arms.proofs.Gathering.{firsts, firsts_begin, firsts_end, firsts_go, firsts_stop}
use Rattle.ep_typer_arms.proofs.arms.functions_defined.Goals as goal

pub loop-tree-init : goal.loop-tree-init
loop-tree-init c = record {
  known = c.requires;
  means = λ ds h. firsts_begin (env c.args.env.now) c.args.done.now c.in_ok-marked.marked c.args.list.now ds h
      c.in_ok-marked.ensures c.new-all.result.items c.new-all.ensures.items;
}

pub returns-in_err-one-clause-means : goal.returns-in_err-one-clause-means
returns-in_err-one-clause-means c ds h =
    let p = err_from_is_err_and c.from_residual-in_err-one.result c.from_residual-in_err-one.ensures.1 in
    rw (p.1, p.2) (firsts_stop (env c.loop-tree.env) c.loop-tree.marked c.loop-tree.tree-index c.args.list.now c.tree-item.result
    c.loop-tree.all.items (firsts (env c.args.env.now) ds c.args.list.now) (c.loop-tree.invariant.means ds h)
    c.loop-tree-test.true c.tree-item.is c.in_err-one.field-0.0 c.in_err-one.ensures.means)

pub loop-tree-preserved : goal.loop-tree-preserved
loop-tree-preserved c = record {
  known = c.in_ok-one.ensures.known;
  means = λ ds h. firsts_go (env c.loop-tree.env) c.loop-tree.marked c.loop-tree.tree-index c.args.list.now c.tree-item.result
      c.loop-tree.all.items (firsts (env c.args.env.now) ds c.args.list.now) (c.loop-tree.invariant.means ds h)
      c.loop-tree-test.true c.tree-item.is c.in_ok-one.one (env c.function_defined.new.env) c.add.new.self c.push.new.self.items
      c.in_ok-one.ensures.means c.in_ok-add.ensures c.in_ok-push.ensures.items;
}

pub returns-clause-means : goal.returns-clause-means
returns-clause-means c ds h =
    firsts_end (env c.loop-tree.env) c.loop-tree.marked c.loop-tree.tree-index c.args.list.now c.loop-tree.all.items
    (firsts (env c.args.env.now) ds c.args.list.now) (c.loop-tree.invariant.means ds h) (omega arith)
