use Rattle.std.specs.Global.{Vec}
use Rattle.std.specs.Prelude.{ℕ, Option}
use Rattle.std.proofs.lemmas.Result.{err_from_is_err_and}
use Rattle.ep_typing.specs.Env.{Env}
use Rattle.ep_scopes.specs.Comes.{Comes}
use Rattle.ep_scopes.specs.View.{env}
use Rattle.ep_scopes.proofs.Coming.{comes_itself, comes_on}
use Rattle.ep_declared.proofs.Answering.{on_stop}
use Rattle.ep_typer_functions.proofs.params.param_bounds.Goals as goal

pub returns-in-None-clause-comes : goal.returns-in-None-clause-comes
returns-in-None-clause-comes c = comes_itself (env c.args.env.now)

pub returns-in_err-counts-in-None-first-clause-comes : goal.returns-in_err-counts-in-None-first-clause-comes
returns-in_err-counts-in-None-first-clause-comes c =
    let p = err_from_is_err_and c.from_residual.result c.from_residual.ensures.1 in
    let P : Type 0 = Comes (env c.args.env.now) (env c.bounds.new.env) in
    rw (p.1, p.2) (on_stop (Vec ℕ) (Option (Vec ℕ)) _ P P (λ h. h) c.in_err-counts-in-None-first.ensures.comes)

pub returns-in_err-bound-in-Some-first-clause-comes : goal.returns-in_err-bound-in-Some-first-clause-comes
returns-in_err-bound-in-Some-first-clause-comes c =
    let p = err_from_is_err_and c.from_residual-in_err-bound-in-Some-first.result c.from_residual-in_err-bound-in-Some-first.ensures.1 in
    let P : Type 0 = Comes (env c.args.env.now) (env c.bound.new.env) in
    rw (p.1, p.2) (on_stop ℕ (Option (Vec ℕ)) _ P P (λ h. h) c.in_err-bound-in-Some-first.ensures.comes)

pub returns-in_err-counts-in-Some-first-clause-comes : goal.returns-in_err-counts-in-Some-first-clause-comes
returns-in_err-counts-in-Some-first-clause-comes c =
    let p = err_from_is_err_and c.from_residual-in_err-counts-in-Some-first.result c.from_residual-in_err-counts-in-Some-first.ensures.1 in
    let G : Env = env c.args.env.now in
    let H : Env = env c.bound.new.env in
    let I : Env = env c.bounds-in-Some-first.new.env in
    rw (p.1, p.2) (on_stop (Vec ℕ) (Option (Vec ℕ)) _ (Comes H I) (Comes G I)
    (comes_on G H I c.in_ok-bound-in-Some-first.ensures.comes) c.in_err-counts-in-Some-first.ensures.comes)

pub returns-in_ok-counts-in-Some-first-clause-comes : goal.returns-in_ok-counts-in-Some-first-clause-comes
returns-in_ok-counts-in-Some-first-clause-comes c =
    comes_on (env c.args.env.now) (env c.bound.new.env) (env c.bounds-in-Some-first.new.env)
    c.in_ok-bound-in-Some-first.ensures.comes c.in_ok-counts-in-Some-first.ensures.comes
