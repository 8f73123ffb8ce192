use Rattle.std.proofs.Common.{sym, ◌∙◌}
use Rattle.ep_double.specs.ByteStates.{states_in}
use Rattle.ep_double.proofs.Moves.{first_arm, other_arm}
use Rattle.ep_double.proofs.mover.+statements.Goals as goal

pub do_one-returns-then-is_same_order : goal.do_one-returns-then-is_same_order
do_one-returns-then-is_same_order t c =
    first_arm c.args.order (states_in c.args.m.now.items) c.args.what.now c.in-ByOrder.named c.in-ByOrder.a
    c.in-ByOrder.b c.in-ByOrder.is c.deref-then-is_same_order.result.now _ c.deref-then-is_same_order.ensures.value
    (sym c.if-is_same_order.true ∙ c.is_same_order.ensures) c.do_all.ensures

pub do_one-returns-else-is_same_order : goal.do_one-returns-else-is_same_order
do_one-returns-else-is_same_order t c =
    other_arm c.args.order (states_in c.args.m.now.items) c.args.what.now c.in-ByOrder.named c.in-ByOrder.a
    c.in-ByOrder.b c.in-ByOrder.is c.deref-else-is_same_order.result.now _ c.deref-else-is_same_order.ensures.value
    (sym c.if-is_same_order.false ∙ c.is_same_order.ensures) c.do_all-else-is_same_order.ensures
