use Rattle.std.proofs.Common.{refl}
use Rattle.std.proofs.lemmas.Result.{err_from_is_err_and}
use Rattle.ep_scopes.specs.View.{env}
use Rattle.ep_declared.proofs.Growth.{follows_itself, follows_more, type_known}
use Rattle.ep_declared.proofs.MemberLemmas.{all_types, type_stops, type_went}
use Rattle.ep_declared.proofs.typedefs.types_declared.Goals as goal

pub loop-d-init : goal.loop-d-init
loop-d-init c = record { means = refl; after = follows_itself (env c.args.env.now) c.requires.known }

pub type_declared-requires : goal.type_declared-requires
type_declared-requires c = record {
  known = c.loop-d.invariant.after.known;
  inside = type_known c.args.env.now.types c.loop-d.env.types c.loop-d.invariant.after.grown c.args.c c.requires.inside;
}

pub returns-in_err-type_declared-clause-means : goal.returns-in_err-type_declared-clause-means
returns-in_err-type_declared-clause-means c =
    let p = err_from_is_err_and c.from_residual.result c.from_residual.ensures.1 in
    rw (p.1, p.2) (type_stops c.args.c c.loop-d.d-index c.args.list.now c.d-item.result c.loop-d-test.true c.d-item.is
    (env c.loop-d.env) _
    c.loop-d.invariant.means _ c.in_err-type_declared.ensures.means)

pub loop-d-preserved : goal.loop-d-preserved
loop-d-preserved c = record {
  means = type_went c.args.c c.loop-d.d-index c.args.list.now c.d-item.result c.loop-d-test.true c.d-item.is (env
      c.loop-d.env) _
      c.loop-d.invariant.means (env c.type_declared.new.env) c.in_ok-type_declared.ensures.means;
  after = follows_more (env c.args.env.now) (env c.loop-d.env) (env c.type_declared.new.env) c.loop-d.invariant.after
      c.in_ok-type_declared.ensures.after;
}

pub returns-clause-means : goal.returns-clause-means
returns-clause-means c = all_types c.args.c c.loop-d.d-index c.args.list.now (env c.loop-d.env) _ c.loop-d-test.false
    c.loop-d.invariant.means
