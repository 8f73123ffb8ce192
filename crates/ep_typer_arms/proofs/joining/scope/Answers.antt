use Rattle.ep_core.proofs.Views.{scope_is}
use Rattle.ep_typer_arms.proofs.joining.scope.Goals as goal

pub returns : goal.returns
returns c = scope_is c.args.blocks c.args.body
