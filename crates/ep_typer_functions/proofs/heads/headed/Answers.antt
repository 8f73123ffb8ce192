use Rattle.std.proofs.lemmas.Result.{err_from_is_err_and}
use Rattle.std.specs.Global.{Vec}
use Rattle.ep_typing.specs.declared.types.CType.{CType}
use Rattle.ep_typing.specs.Env.{Env}
use Rattle.ep_scopes.specs.Comes.{Comes}
use Rattle.ep_scopes.specs.declared.env.FunctionType.{FunctionType}
use Rattle.ep_scopes.specs.View.{env}
use Rattle.ep_scopes.proofs.Coming.{comes_on}
use Rattle.ep_declared.proofs.Answering.{answered, on_stop}
use Rattle.ep_typer_functions.proofs.Coming.{left_comes, opened_comes}
use Rattle.ep_typer_functions.proofs.heads.headed.Goals as goal

pub returns-in_err-c-clause-comes : goal.returns-in_err-c-clause-comes
returns-in_err-c-clause-comes c =
    let p = err_from_is_err_and c.from_residual.result c.from_residual.ensures.1 in
    let P : Type 0 = Comes (env c.args.env.now) (env c.specs_declared.new.env) in
    rw (p.1, p.2) (on_stop CType FunctionType _ P P (λ h. h) c.in_err-c.ensures.comes)

pub returns-in_err-r-clause-comes : goal.returns-in_err-r-clause-comes
returns-in_err-r-clause-comes c =
    answered c.from_residual-in_err-r.result (Comes (env c.args.env.now) (env c.specs_declared.new.env))
    c.in_ok-c.ensures.comes

pub returns-in_err-params-clause-comes : goal.returns-in_err-params-clause-comes
returns-in_err-params-clause-comes c =
    let p = err_from_is_err_and c.from_residual-in_err-params.result c.from_residual-in_err-params.ensures.1 in
    let G : Env = env c.args.env.now in
    let J : Env = env c.enter.new.env in
    let K : Env = env c.params_declared.new.env in
    let a : Comes G J = opened_comes G (env c.specs_declared.new.env) (env c.with_type.new.env) J c.in_ok-r.r
    c.in_ok-c.ensures.comes c.in_ok-with_type.ensures.means c.in_ok-enter.ensures.means in
    rw (p.1, p.2) (on_stop (Vec CType) FunctionType _ (Comes J K) (Comes G K) (comes_on G J K a) c.in_err-params.ensures.comes)

pub returns-clause-comes : goal.returns-clause-comes
returns-clause-comes c =
    let G : Env = env c.args.env.now in
    let J : Env = env c.enter.new.env in
    let a : Comes G J = opened_comes G (env c.specs_declared.new.env) (env c.with_type.new.env) J c.in_ok-r.r
    c.in_ok-c.ensures.comes c.in_ok-with_type.ensures.means c.in_ok-enter.ensures.means in
    comes_on G J (env c.params_declared.new.env) a c.in_ok-params.ensures.comes

pub returns-clause-outside : goal.returns-clause-outside
returns-clause-outside c =
    left_comes (env c.args.env.now) (env c.specs_declared.new.env) (env c.with_type.new.env) (env c.enter.new.env)
    (env c.params_declared.new.env) c.in_ok-r.r c.in_ok-c.ensures.comes c.in_ok-with_type.ensures.means
    c.in_ok-enter.ensures.means c.in_ok-params.ensures.comes
