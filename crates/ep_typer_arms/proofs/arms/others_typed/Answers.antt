use Rattle.std.proofs.Common.{drop, refl, arith}
use Rattle.std.proofs.lemmas.Result.{err_from_is_err_and}
use Rattle.ep_scopes.specs.View.{env}
use Rattle.ep_typer_functions.specs.BodyView.{typed}
use Rattle.ep_typer_arms.proofs.Gathering.{others, others_begin, others_end, others_go, others_stop}
use Rattle.ep_typer_arms.proofs.arms.others_typed.Goals as goal

pub loop-place-init : goal.loop-place-init
loop-place-init c = record {
  known = c.requires;
  means = λ ds h. others_begin (env c.args.env.now) c.args.done.now c.in_ok-marked.marked c.args.defined.now c.args.list.now ds h
      c.in_ok-marked.ensures c.new-all.result.items c.new-all.ensures.items;
}

pub returns-in_err-typed-clause-means : goal.returns-in_err-typed-clause-means
returns-in_err-typed-clause-means c ds h =
    let p = err_from_is_err_and c.from_residual-in_err-typed.result c.from_residual-in_err-typed.ensures.1 in
    rw (p.1, p.2) (others_stop (env c.loop-place.env) c.loop-place.marked c.loop-place.place c.args.defined.now c.args.list.now
    c.index-list-place.result c.loop-place.all.items (others (env c.args.env.now) ds c.args.defined.now c.args.list.now)
    (c.loop-place.invariant.means ds h) c.loop-place-test.true c.index-list-place.is c.first_block.result c.first_block.ensures
    c.in_err-typed.field-0.0 c.in_err-typed.ensures.means)

pub loop-place-preserved : goal.loop-place-preserved
loop-place-preserved c = record {
  known = c.in_ok-typed.ensures.known;
  means = λ ds h. others_go (env c.loop-place.env) c.loop-place.marked c.loop-place.place c.args.defined.now c.args.list.now
      c.index-list-place.result c.loop-place.all.items (others (env c.args.env.now) ds c.args.defined.now c.args.list.now)
      (c.loop-place.invariant.means ds h) c.loop-place-test.true c.index-list-place.is c.first_block.result c.first_block.ensures
      (typed c.in_ok-typed.typed) c.in_ok-typed.typed.body (env c.function_typed.new.env) c.add.new.self c.push.new.self.items
      c.in_ok-typed.ensures.means c.in_ok-add.ensures refl c.in_ok-push.ensures.items;
}

pub returns-clause-means : goal.returns-clause-means
returns-clause-means c ds h =
    others_end (env c.loop-place.env) c.loop-place.marked c.loop-place.place (drop c.loop-place.place c.args.defined.now) c.args.list.now
    c.loop-place.all.items (others (env c.args.env.now) ds c.args.defined.now c.args.list.now) (c.loop-place.invariant.means ds h)
    (omega arith)
