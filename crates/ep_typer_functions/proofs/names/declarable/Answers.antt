use Rattle.std.proofs.Common.{sym, refl, ◌∙◌}
use Rattle.ep_elaboration.specs.Functions.{function_declared}
use Rattle.ep_scopes.specs.View.{env}
use Rattle.ep_typer_functions.specs.View.{signature}
use Rattle.ep_typer_functions.proofs.Declaring.{may_come}
use Rattle.ep_typer_functions.proofs.names.declarable.Goals as goal

pub returns-then-stands_against : goal.returns-then-stands_against
unfolding function_declared
returns-then-stands_against c = λ ds h.
    rw (sym (c.stands_against.ensures ds h) ∙ c.if-stands_against.true, c.refused.ensures) refl

pub returns-then-not-fits_main : goal.returns-then-not-fits_main
unfolding function_declared
returns-then-not-fits_main c = λ ds h.
    rw (
      sym (c.stands_against.ensures ds h) ∙ c.if-stands_against.false,
      sym c.fits_main.ensures ∙ c.if-not-fits_main.true,
      c.refused-then-not-fits_main.ensures,
    ) refl

pub returns : goal.returns
returns c = λ ds h.
    may_come (env c.args.env.now) ds c.args.with_body (signature c.args.name.now c.args.ty.now) c.args.line
    (sym (c.stands_against.ensures ds h) ∙ c.if-stands_against.false) (sym c.fits_main.ensures ∙ c.if-not-fits_main.false)
