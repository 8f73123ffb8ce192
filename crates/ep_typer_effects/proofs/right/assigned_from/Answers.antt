use Rattle.std.proofs.Common.{ap}
use Rattle.ep_ast.specs.Mark.{equal}
use Rattle.ep_core.specs.View.{what_view}
use Rattle.ep_stores.proofs.StoreLemmas.{same_gives}
use Rattle.ep_operands.specs.View as operands
use Rattle.ep_typing.specs.Results.{at}
use Rattle.ep_typing.specs.Typing.{assigned_from}
use Rattle.ep_typer_effects.specs.View as view
use Rattle.ep_typer_effects.specs.declared.right.Right.{Right}
use Rattle.ep_typer_effects.proofs.right.assigned_from.Goals as goal

pub returns-in-Result : goal.returns-in-Result
returns-in-Result c old =
    same_gives what_view _ _ c.result_taken.result
    (ap (λ (r : Right). at c.args.line (assigned_from c.args.types.now equal (operands.operand c.args.x) old (view.right r))) c.in-Result.is)
    (c.result_taken.ensures c.args.types.now old)
