use Rattle.std.proofs.Common.{◌∙◌}
use Rattle.ep_typer_functions.proofs.ParamLemmas.{same_lists}
use Rattle.ep_typer_functions.proofs.names.are_same.Goals as goal

pub returns : goal.returns
returns c = c.eq.ensures ∙ same_lists c.args.a.now c.args.b.now
