use Rattle.ep_typer_functions.proofs.ParamLemmas.{type_grows, type_stays}
use Rattle.ep_typer_functions.proofs.params.add.Goals as goal

pub returns-clause-inside : goal.returns-clause-inside
returns-clause-inside c = type_stays _ _ c.args.c c.in_ok-add_type.ensures c.requires

pub returns-clause-grown : goal.returns-clause-grown
returns-clause-grown c = type_grows _ _ c.args.c c.in_ok-add_type.ensures
