use Rattle.ep_scopes.specs.View.{env}
use Rattle.std.proofs.lemmas.Result.{on_ok_weaker}
use Rattle.ep_declared.specs.Open.{Follows}
use Rattle.ep_declared.proofs.CountLemmas.{none_before}
use Rattle.ep_declared.proofs.counts.bounds.Goals as goal

pub returns-clause-means : goal.returns-clause-means
returns-clause-means c =
    none_before c.new.result.items _ (env c.bounds_behind.new.env) c.bounds_behind.result c.new.ensures.items
    c.bounds_behind.ensures.means

pub returns-clause-known : goal.returns-clause-known
returns-clause-known c =
    on_ok_weaker c.bounds_behind.result (λ (f : Follows (env c.args.env.now) (env c.bounds_behind.new.env)). f.known)
    c.bounds_behind.ensures.after

pub returns-clause-grown : goal.returns-clause-grown
returns-clause-grown c =
    on_ok_weaker c.bounds_behind.result (λ (f : Follows (env c.args.env.now) (env c.bounds_behind.new.env)). f.grown)
    c.bounds_behind.ensures.after

pub returns-clause-stay : goal.returns-clause-stay
returns-clause-stay c =
    on_ok_weaker c.bounds_behind.result (λ (f : Follows (env c.args.env.now) (env c.bounds_behind.new.env)). f.stay)
    c.bounds_behind.ensures.after
