use Rattle.ep_scopes.specs.View.{env}
use Rattle.ep_declared.proofs.Growth.{follows_ok}
use Rattle.ep_scopes.proofs.Coming.{comes_itself}
use Rattle.ep_declared.proofs.counts.bound_if.Goals as goal

pub returns-in-Some-clause-after : goal.returns-in-Some-clause-after
returns-in-Some-clause-after c =
    follows_ok c.bound.result (env c.args.env.now) (env c.bound.new.env) c.bound.ensures.known c.bound.ensures.grown
    c.bound.ensures.stay

pub returns-in-None-clause-comes : goal.returns-in-None-clause-comes
returns-in-None-clause-comes c =
    rw c.refused.ensures (comes_itself (env c.args.env.now))
