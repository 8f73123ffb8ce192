use Rattle.std.proofs.Common.{◌∙◌, ◌||◌, Bool, ap}
use Rattle.std.specs.Prelude.{is_some}
use Rattle.ep_typing.specs.Env.{entry}
use Rattle.ep_scopes.specs.View as view
use Rattle.ep_declared.proofs.NameLemmas.{taken_is}
use Rattle.ep_declared.proofs.naming.is_taken.Goals as goal

pub returns : goal.returns
returns c =
    ap (λ (b : Bool). b || c.is_built_in.result) c.has.ensures
    ∙ ap (λ (b : Bool). is_some (entry c.args.name.now (view.innermost (view.scopes c.args.env.now.scopes)).names) ||
    b) c.is_built_in.ensures
    ∙ taken_is c.args.name.now (view.scopes c.args.env.now.scopes)
