use Rattle.std.proofs.Common.{◌∙◌, ap}
use Rattle.ep_int.specs.declared.types.Order.{Order}
use Rattle.ep_core.specs.Program.{by_order}
use Rattle.ep_core.specs.View.{stmts_view}
use Rattle.ep_core.proofs.Views.{by_order_is}
use Rattle.ep_typer_arms.proofs.joining.by_order.Goals as goal

pub returns : goal.returns
returns c =
    by_order_is c.order_of.result c.args.then c.args.otherwise
    ∙ ap (λ (o : Order). by_order o (stmts_view c.args.then.items) (stmts_view c.args.otherwise.items)) c.order_of.ensures
