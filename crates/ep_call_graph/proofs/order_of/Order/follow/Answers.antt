use Rattle.std.proofs.Common.{◌≡◌, ℕ, suc, arith, List, OnOk, ap, ◌∙◌, subst, ◌∷◌}
use Rattle.ep_call_graph.specs.declared.order_of.Frame.{Frame}
use Rattle.ep_call_graph.specs.Visit.{entered, frames}
use Rattle.ep_call_graph.proofs.Visits.{pushed}
use Rattle.ep_call_graph.proofs.order_of.Order.follow.Goals as goal

pub returns-clause-stack : goal.returns-clause-stack
returns-clause-stack c =
    let e : c.in-Some.call ≡ suc c.args.frame.call = omega (arith, c.in-Some.ensures.1) in
    let frame : ℕ → Frame = λ k. record { function = c.args.frame.function; call = k } in
    subst (λ (all : List Frame). OnOk c.enter.result (frames c.enter.new.self.stack.items ≡ entered c.args.callee c.args.self.now.done.items all))
    (pushed c.args.self.now.stack.items c.push.new.self.items (frame c.in-Some.call) c.in_ok-push.ensures.items
    ∙ ap (λ (k : ℕ). frame k ∷ frames c.args.self.now.stack.items) e)
    c.enter.ensures.stack
