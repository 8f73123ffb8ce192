use Rattle.ep_state_synthesis.proofs.Both.{copied_first, copied_second, copied_orders, copied_model}
use Rattle.ep_state_synthesis.proofs.unifying.unified_copies.Goals as goal

pub unified_states-requires-clause-orders : goal.unified_states-requires-clause-orders
unified_states-requires-clause-orders g c =
    copied_orders c.args.a.now c.args.b.now c.in_ok-first.first c.in_ok-second.second c.in_ok-first.ensures
    c.in_ok-second.ensures c.requires.orders

pub unified_states-requires-clause-model : goal.unified_states-requires-clause-model
unified_states-requires-clause-model g c =
    copied_model c.args.a.now c.args.b.now c.in_ok-first.first c.in_ok-second.second c.in_ok-first.ensures
    c.in_ok-second.ensures c.requires.model

pub returns-clause-left : goal.returns-clause-left
returns-clause-left g c =
    copied_first g.N.Num.ops c.args.a.now c.args.b.now c.in_ok-first.first c.in_ok-second.second c.in_ok-both.both.left
    c.in_ok-first.ensures c.in_ok-second.ensures c.in_ok-both.ensures.left

pub returns-clause-right : goal.returns-clause-right
returns-clause-right g c =
    copied_second g.N.Num.ops c.args.a.now c.args.b.now c.in_ok-first.first c.in_ok-second.second
    c.in_ok-both.both.right c.in_ok-first.ensures c.in_ok-second.ensures c.in_ok-both.ensures.right
