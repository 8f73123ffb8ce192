use Rattle.std.proofs.Common.{refl}
use Rattle.ep_scopes.specs.View.{env}
use Rattle.ep_typer_functions.proofs.SignatureLemmas.{unlike_type}
use Rattle.ep_typer_functions.proofs.names.is_unlike.Goals as goal

pub returns-in-Some-get_index : goal.returns-in-Some-get_index
returns-in-Some-get_index c =
    unlike_type (env c.args.env.now) c.args.env.now.functions.entries c.in-Some-get_index.field-0-0.now
    c.in-Some-get_index.own.now c.args.ty.now c.args.name.now c.in-Some.n _ c.is_same_signature.result refl
    c.in-Some.ensures c.in-Some-get_index.ensures.entry c.is_same_signature.ensures
