use Rattle.std.proofs.Common.{subst, sym}
use Rattle.ep_ast.specs.Expression.{expr}
use Rattle.ep_typing.specs.Env.{Env}
use Rattle.ep_scopes.specs.View.{env}
use Rattle.ep_declared.proofs.Growth.{IsMore, mentioned_more}
use Rattle.ep_declared.proofs.Coming.{come_answered, mentioned_left}
use Rattle.ep_declared.proofs.counts.bound.Goals as goal

pub returns-clause-grown : goal.returns-clause-grown
returns-clause-grown c =
    let m = subst (λ (H : Env). IsMore c.args.env.now.types H.types) (sym c.in_ok-mention.ensures.means)
    (mentioned_more (env c.args.env.now) (expr c.args.tree.now)) in
    m.grows

pub returns-clause-stay : goal.returns-clause-stay
returns-clause-stay c =
    let m = subst (λ (H : Env). IsMore c.args.env.now.types H.types) (sym c.in_ok-mention.ensures.means)
    (mentioned_more (env c.args.env.now) (expr c.args.tree.now)) in
    m.stay

pub returns-in_err-x-clause-comes : goal.returns-in_err-x-clause-comes
returns-in_err-x-clause-comes c =
    come_answered c.from_residual-in_err-x.result (env c.args.env.now) (env c.mention.new.env)
    (mentioned_left (env c.args.env.now) (env c.mention.new.env)
    (expr c.args.tree.now) c.in_ok-mention.ensures.means)

pub returns-in_err-n-clause-comes : goal.returns-in_err-n-clause-comes
returns-in_err-n-clause-comes c =
    come_answered c.from_residual-in_err-n.result (env c.args.env.now) (env c.mention.new.env)
    (mentioned_left (env c.args.env.now) (env c.mention.new.env)
    (expr c.args.tree.now) c.in_ok-mention.ensures.means)

pub returns-clause-comes : goal.returns-clause-comes
returns-clause-comes c =
    mentioned_left (env c.args.env.now) (env c.mention.new.env) (expr c.args.tree.now) c.in_ok-mention.ensures.means
