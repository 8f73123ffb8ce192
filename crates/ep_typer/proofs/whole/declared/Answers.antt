use Rattle.ep_defined.specs.View.{sofar}
use Rattle.ep_typer.proofs.TextItems.{none_yet}
use Rattle.ep_typer.proofs.whole.declared.Goals as goal

pub items-requires-clause-behind : goal.items-requires-clause-behind
items-requires-clause-behind c = none_yet c.args.model (sofar c.in_ok-sofar.sofar) c.in_ok-sofar.ensures
