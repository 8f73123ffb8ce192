use Rattle.std.specs.Global.{Vec}
use Rattle.std.specs.Prelude.{ℕ, Option}
use Rattle.std.proofs.lemmas.Result.{err_from_is_err_and}
use Rattle.ep_typing.specs.declared.types.CType.{CType}
use Rattle.ep_typing.specs.Env.{Env}
use Rattle.ep_scopes.specs.Comes.{Comes}
use Rattle.ep_scopes.specs.View.{env}
use Rattle.ep_scopes.proofs.Coming.{comes_on}
use Rattle.ep_declared.proofs.Answering.{on_stop}
use Rattle.ep_typer_functions.proofs.ParamLemmas.{starred_known}
use Rattle.ep_typer_functions.proofs.params.param_declared.Goals as goal

pub with_param-requires-clause-inside : goal.with_param-requires-clause-inside
with_param-requires-clause-inside c =
    starred_known _ _ c.in_ok-c.c c.in_ok-c-2.c _ c.in_ok-c-2.ensures.means c.in_ok-counts.ensures.grown c.in_ok-c.ensures.inside

pub returns-in_err-c-clause-comes : goal.returns-in_err-c-clause-comes
returns-in_err-c-clause-comes c =
    let p = err_from_is_err_and c.from_residual.result c.from_residual.ensures.1 in
    let P : Type 0 = Comes (env c.args.env.now) (env c.words_declared.new.env) in
    rw (p.1, p.2) (on_stop CType CType _ P P (λ h. h) c.in_err-c.ensures.comes)

pub returns-in_err-counts-clause-comes : goal.returns-in_err-counts-clause-comes
returns-in_err-counts-clause-comes c =
    let p = err_from_is_err_and c.from_residual-in_err-counts.result c.from_residual-in_err-counts.ensures.1 in
    let G : Env = env c.args.env.now in
    let H : Env = env c.words_declared.new.env in
    let I : Env = env c.param_bounds.new.env in
    rw (p.1, p.2) (on_stop (Option (Vec ℕ)) CType _ (Comes H I) (Comes G I) (comes_on G H I c.in_ok-c.ensures.comes)
    c.in_err-counts.ensures.comes)

pub returns-in_err-d-clause-comes : goal.returns-in_err-d-clause-comes
returns-in_err-d-clause-comes c =
    let p = err_from_is_err_and c.from_residual-in_err-d.result c.from_residual-in_err-d.ensures.1 in
    let G : Env = env c.args.env.now in
    let H : Env = env c.words_declared.new.env in
    let I : Env = env c.param_bounds.new.env in
    let J : Env = env c.with_param.new.env in
    rw (p.1, p.2) (on_stop CType CType _ (Comes I J) (Comes G J)
    (comes_on G I J (comes_on G H I c.in_ok-c.ensures.comes c.in_ok-counts.ensures.comes)) c.in_err-d.ensures.comes)

pub returns-clause-comes : goal.returns-clause-comes
returns-clause-comes c =
    let G : Env = env c.args.env.now in
    let H : Env = env c.words_declared.new.env in
    let I : Env = env c.param_bounds.new.env in
    comes_on G I (env c.with_param.new.env) (comes_on G H I c.in_ok-c.ensures.comes c.in_ok-counts.ensures.comes)
    c.in_ok-d.ensures.comes
