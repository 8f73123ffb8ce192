use Rattle.std.proofs.Common.{◌∙◌, Some, ap, sym}
use Rattle.ep_scopes.specs.declared.scopes.Meaning.{Meaning}
use Rattle.ep_scopes.specs.View.{env, meaning}
use Rattle.ep_typer_functions.specs.View.{signature}
use Rattle.ep_typer_functions.proofs.SignatureLemmas.{against_function}
use Rattle.ep_typer_functions.proofs.names.stands_against.Goals as goal

pub returns-in-Some-Function : goal.returns-in-Some-Function
returns-in-Some-Function c ds h =
    against_function (env c.args.env.now) ds c.args.with_body c.has_type.result c.has.result
    (signature c.args.name.now c.args.ty.now) c.in-Some-Function.n _
    (ap (λ (m : Meaning). Some (meaning m)) (sym c.in-Some-Function.field-0-is) ∙ c.in-Some-Function.ensures)
    (c.has_type.ensures c.args.name.now) (c.has.ensures ∙ sym (h c.in-Some-Function.n))
