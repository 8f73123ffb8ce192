use Rattle.ep_int.specs.declared.types.Order.TheVariants.{Big}
use Rattle.ep_core.proofs.Views.{by_order_is}
use Rattle.ep_bitfield.proofs.access.by_order.Goals as goal

pub returns : goal.returns
returns c = by_order_is Big c.args.high c.args.low
