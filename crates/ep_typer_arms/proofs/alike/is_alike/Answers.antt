use Rattle.std.proofs.Common.{sym, ap, ◌∙◌}
use Rattle.ep_ast.specs.Declaration.{head_of}
use Rattle.ep_elaboration.specs.FunctionSteps.{is_alike}
use Rattle.ep_typer_functions.specs.View.{headed}
use Rattle.ep_typer_arms.proofs.alike.is_alike.Goals as goal

pub returns-in-Ok-clause-means : goal.returns-in-Ok-clause-means
returns-in-Ok-clause-means c ds done h G =
    c.is_same_signature.ensures h.name (head_of c.args.second.now).name
    ∙ sym (ap (is_alike h (headed c.args.ty.now, G) (head_of c.args.second.now)) (c.in-Ok.ensures.means ds done))
