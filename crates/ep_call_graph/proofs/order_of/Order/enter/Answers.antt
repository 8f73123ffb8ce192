use Rattle.std.proofs.Common.{Bool, cond, sym, ap, ◌∙◌, ◌∷◌}
use Rattle.ep_call_graph.specs.Visit.{frames}
use Rattle.ep_call_graph.proofs.Visits.{pushed}
use Rattle.ep_call_graph.proofs.order_of.Order.enter.Goals as goal

pub returns-clause-stack : goal.returns-clause-stack
returns-clause-stack c =
    pushed c.args.self.now.stack.items c.push.new.self.items (record { function = c.args.f; call = 0 }) c.in_ok-push.ensures.items
    ∙ sym (ap (λ (b : Bool). cond b (frames c.args.self.now.stack.items) ((record { function = c.args.f; call = 0 }) ∷ frames c.args.self.now.stack.items))
    (sym c.has.ensures ∙ c.if-has.false))
