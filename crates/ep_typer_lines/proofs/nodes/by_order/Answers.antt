use Rattle.ep_typer_lines.proofs.Rows.{order_is}
use Rattle.ep_typer_lines.proofs.nodes.by_order.Goals as goal

pub returns : goal.returns
returns c = order_is _ _ c.args.then c.args.otherwise c.order_of.ensures
