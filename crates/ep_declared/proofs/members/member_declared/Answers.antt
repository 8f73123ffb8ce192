use Rattle.std.proofs.Common.{ℕ, subst, sym}
use Rattle.std.specs.Global.{Vec}
use Rattle.std.proofs.lemmas.Result.{err_from_is_err_and}
use Rattle.ep_core.proofs.Tables.{more_types}
use Rattle.ep_scopes.specs.Comes.{Comes}
use Rattle.ep_scopes.specs.Known.{IsKnown}
use Rattle.ep_scopes.specs.View.{env}
use Rattle.ep_scopes.proofs.Coming.{comes_on}
use Rattle.ep_declared.proofs.Answering.{answered, on_stop}
use Rattle.ep_declared.proofs.BodyComing.{stop_comes}
use Rattle.ep_declared.proofs.Growth.{follows_more, type_known}
use Rattle.ep_declared.proofs.MemberLemmas.{types_stay}
use Rattle.ep_declared.proofs.members.member_declared.Goals as goal

pub with_member-requires : goal.with_member-requires
with_member-requires c = record {
  known = c.in_ok-counts.ensures.known;
  inside = subst (IsKnown c.bounds.new.env.types) (sym c.in_ok-pointer.ensures.means)
      (type_known c.args.env.now.types c.bounds.new.env.types c.in_ok-counts.ensures.grown c.args.c c.requires.inside);
  members = types_stay c.args.env.now.types c.bounds.new.env.types (more_types c.args.env.now.types
      c.bounds.new.env.types c.in_ok-counts.ensures.grown)
      c.args.named.now c.requires.members;
}

pub returns-clause-after : goal.returns-clause-after
returns-clause-after c =
    follows_more (env c.args.env.now) (env c.bounds.new.env) (env c.with_member.new.env)
    (record {
      known = c.in_ok-counts.ensures.known;
      grown = c.in_ok-counts.ensures.grown;
      stay =
          c.in_ok-counts.ensures.stay;
    })
    c.in_ok-with_member.ensures.after

pub returns-in_err-counts-clause-comes : goal.returns-in_err-counts-clause-comes
returns-in_err-counts-clause-comes c =
    let p = err_from_is_err_and c.from_residual.result c.from_residual.ensures.1 in
    let came = Comes (env c.args.env.now) (env c.bounds.new.env) in
    rw (p.1, p.2) (on_stop (Vec ℕ) (Unit {0}) _ came came (λ h. h) c.in_err-counts.ensures.comes)

pub returns-in_err-pointer-clause-comes : goal.returns-in_err-pointer-clause-comes
returns-in_err-pointer-clause-comes c =
    answered c.from_residual-in_err-pointer.result (Comes (env c.args.env.now) (env c.bounds.new.env))
    c.in_ok-counts.ensures.comes

pub returns-in_err-with_member-clause-comes : goal.returns-in_err-with_member-clause-comes
returns-in_err-with_member-clause-comes c =
    let p = err_from_is_err_and c.from_residual-in_err-with_member.result
    c.from_residual-in_err-with_member.ensures.1 in
    rw (p.1, p.2) (stop_comes (Unit {0}) (Unit {0}) _ (env c.args.env.now) (env c.bounds.new.env)
    (env c.with_member.new.env) c.in_ok-counts.ensures.comes c.in_err-with_member.ensures.comes)

pub returns-clause-comes : goal.returns-clause-comes
returns-clause-comes c =
    comes_on (env c.args.env.now) (env c.bounds.new.env) (env c.with_member.new.env) c.in_ok-counts.ensures.comes
    c.in_ok-with_member.ensures.comes
