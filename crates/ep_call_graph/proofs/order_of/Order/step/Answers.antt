use Rattle.std.proofs.Common.{vec_len}
use Rattle.ep_call_graph.specs.View.{listed}
use Rattle.ep_call_graph.proofs.Visits.{some_order, step_none, step_some}
use Rattle.ep_call_graph.proofs.order_of.Order.step.Goals as goal

pub returns-in-None-clause-finishes : goal.returns-in-None-clause-finishes
returns-in-None-clause-finishes c =
    step_none c.add.result (listed c.args.callees.now) c.args.self.now c.add.new.self c.args.frame c.in-None.ensures c.add.ensures.done c.add.ensures.stack

pub returns-in-Some-clause-order : goal.returns-in-Some-clause-order
returns-in-Some-clause-order c =
    some_order c.follow.result (vec_len c.args.self.now.has) (listed c.args.callees.now) c.args.self.now c.follow.new.self c.args.frame c.in-Some.callee
    c.requires.order c.requires.inside c.requires.all c.in-Some.ensures c.follow.ensures.done c.follow.ensures.has c.follow.ensures.stack

pub returns-in-Some-clause-finishes : goal.returns-in-Some-clause-finishes
returns-in-Some-clause-finishes c =
    step_some c.follow.result (listed c.args.callees.now) c.args.self.now c.follow.new.self c.args.frame c.in-Some.callee
    c.in-Some.ensures c.follow.ensures.done c.follow.ensures.stack
