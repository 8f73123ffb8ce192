use Rattle.std.proofs.Common.{◌≡◌, ap, sym, ◌∙◌, ℕ, ◌∷◌, length, set}
use Rattle.ep_call_graph.specs.declared.cycles.Mark.TheVariants.{Open}
use Rattle.ep_call_graph.specs.declared.cycles.Group.{Group}
use Rattle.ep_call_graph.specs.Search.{tops}
use Rattle.ep_call_graph.specs.View.{listed}
use Rattle.ep_call_graph.proofs.Lists.{len_is}
use Rattle.ep_call_graph.proofs.Marks.{pushed}
use Rattle.ep_call_graph.proofs.Steps.{comes}
use Rattle.ep_call_graph.proofs.cycles.Search.open.Goals as goal

pub returns-clause-stands : goal.returns-clause-stands
returns-clause-stands c =
    let a : c.len-first.result ≡ length c.args.self.now.path.items = c.len-first.ensures ∙ sym (len_is c.args.self.now.path) in
    let b : c.len.result ≡ length c.args.self.now.pending.items = c.len.ensures ∙ sym (len_is c.args.self.now.pending) in
    let group : ℕ → ℕ → Group = λ m n. record { first = m; pending = n } in
    comes (listed c.args.callees.now) c.args.self.now.marks.items c.args.self.now.path.items (tops c.args.self.now.groups.items)
    c.args.self.now.pending.items c.args.self.now.done c.args.f c.requires.stands c.requires.is_new c.requires.inside c.requires.led
    _ _ _ _
    (ap (λ (k : ℕ). set c.args.self.now.marks.items c.args.f (Open k)) a)
    c.in_ok-push-2.ensures.items
    (pushed c.args.self.now.groups.items c.push.new.self.items _ c.in_ok-push.ensures.items
    ∙ ap (λ (k : ℕ). group k c.len.result ∷ tops c.args.self.now.groups.items) a
    ∙ ap (λ (k : ℕ). group (length c.args.self.now.path.items) k ∷ tops c.args.self.now.groups.items) b)
    c.in_ok-wait.ensures
