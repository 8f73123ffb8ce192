use Rattle.std.proofs.Common.{sym, ◌∙◌}
use Rattle.std.proofs.lemmas.Result.{err_from_is_err_and}
use Rattle.ep_scopes.specs.View.{env as env_view}
use Rattle.ep_typer_functions.specs.View.{signature}
use Rattle.ep_typer_functions.proofs.Declaring.{comes_in, is_free, is_there}
use Rattle.ep_typer_functions.proofs.names.function_declared.Goals as goal

pub returns-in_err-declarable-clause-means : goal.returns-in_err-declarable-clause-means
returns-in_err-declarable-clause-means c ds h =
    let p = err_from_is_err_and c.from_residual.result c.from_residual.ensures.1 in
    rw (p.1, p.2) (c.in_err-declarable.ensures ds h)

pub returns-then-is_taken-clause-means : goal.returns-then-is_taken-clause-means
returns-then-is_taken-clause-means c ds h =
    let may = c.in_ok-declarable.ensures ds h in
    absurd (is_free (env_view c.args.env.now) ds c.args.with_body (signature c.args.name.now c.args.ty.now) c.args.line
    may.0 may.1 c.in-None.ensures (sym c.is_taken.ensures ∙ c.if-is_taken.true))

pub returns-in_ok-declare_name-in-None-clause-means : goal.returns-in_ok-declare_name-in-None-clause-means
returns-in_ok-declare_name-in-None-clause-means c ds h =
    let may = c.in_ok-declarable.ensures ds h in
    comes_in (env_view c.args.env.now) ds c.args.with_body (signature c.args.name.now c.args.ty.now) c.args.line may.0
    c.in_ok-n-in-None.n (env_view c.numbered-in-None.new.env) (env_view c.declare_name.new.env) may.1 c.in-None.ensures
    c.in_ok-n-in-None.ensures.means c.in_ok-declare_name-in-None.ensures.means
