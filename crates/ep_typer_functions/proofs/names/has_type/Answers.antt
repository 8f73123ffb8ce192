use Rattle.std.specs.Prelude.{slice_get}
use Rattle.ep_scopes.specs.View.{env}
use Rattle.ep_typer_functions.proofs.SignatureLemmas.{like_type}
use Rattle.ep_typer_functions.proofs.names.has_type.Goals as goal

pub returns-in-Some : goal.returns-in-Some
returns-in-Some c =
    like_type (slice_get (env c.args.env.now).functions c.args.number) c.in-Some.own.now c.args.ty.now _ c.is_same_signature.result
    c.in-Some.ensures c.is_same_signature.ensures
