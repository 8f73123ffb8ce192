use Rattle.ep_typer_functions.proofs.ParamLemmas.{element_known}
use Rattle.ep_typer_functions.proofs.params.adjusted.Goals as goal

pub returns-then-is_array-clause-inside : goal.returns-then-is_array-clause-inside
returns-then-is_array-clause-inside c =
    element_known c.args.types.now c.model.ensures.built c.args.c c.in_ok-d.d c.element_of.result c.element_of.ensures c.in_ok-d.ensures.means
