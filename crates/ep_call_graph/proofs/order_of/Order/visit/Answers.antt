use Rattle.std.proofs.Common.{ℕ, List, sym, ap, ◌∙◌, subst, vec_len}
use Rattle.ep_call_graph.specs.View.{listed}
use Rattle.ep_call_graph.proofs.Lists.{len_is}
use Rattle.ep_call_graph.specs.declared.order_of.Frame.{Frame}
use Rattle.ep_call_graph.specs.Visit.{IsOrder, finished}
use Rattle.ep_call_graph.proofs.Visits.{all_visited, popped_is, popped_order}
use Rattle.ep_call_graph.proofs.order_of.Order.visit.Goals as goal

pub returns-in-None-clause-visits : goal.returns-in-None-clause-visits
returns-in-None-clause-visits c = λ visit is.
    all_visited (listed c.args.callees.now) visit c.loop-turn.self.stack c.loop-turn.self.done.items _ c.in-None.ensures.cases.0
    (c.loop-turn.invariant.finishes visit is)

pub step-requires-clause-order : goal.step-requires-clause-order
step-requires-clause-order c =
    (popped_order (vec_len c.args.self.now.has) (vec_len c.loop-turn.self.has) (listed c.args.callees.now) c.loop-turn.self c.pop.new.self c.in-Some.frame
    c.loop-turn.invariant.order (sym c.loop-turn.invariant.count) c.in-Some.ensures.items).0

pub step-requires-clause-inside : goal.step-requires-clause-inside
step-requires-clause-inside c =
    (popped_order (vec_len c.args.self.now.has) (vec_len c.loop-turn.self.has) (listed c.args.callees.now) c.loop-turn.self c.pop.new.self c.in-Some.frame
    c.loop-turn.invariant.order (sym c.loop-turn.invariant.count) c.in-Some.ensures.items).1

pub loop-turn-preserved : goal.loop-turn-preserved
loop-turn-preserved c =
    let order = subst (λ (n : ℕ). IsOrder n (listed c.args.callees.now) c.step.new.self) c.loop-turn.invariant.count c.in_ok-step-in-Some.ensures.order in
    record {
      count = sym (len_is c.step.new.self.has) ∙ order.flags.count;
      order = order;
      finishes = λ visit is. c.in_ok-step-in-Some.ensures.finishes visit is
          ∙ sym (ap (λ (all : List Frame). finished (listed c.args.callees.now) visit all c.loop-turn.self.done.items)
          (popped_is c.loop-turn.self.stack c.pop.new.self c.in-Some.frame c.in-Some.ensures.items))
          ∙ c.loop-turn.invariant.finishes visit is;
    }
