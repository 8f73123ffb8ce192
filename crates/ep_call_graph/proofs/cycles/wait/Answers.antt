use Rattle.std.proofs.Common.{ap, sym, ◌∙◌, List, ℕ, ◌++◌, append-nil}
use Rattle.ep_call_graph.proofs.Lists.{found_at, none_found}
use Rattle.ep_call_graph.proofs.cycles.wait.Goals as goal

pub returns-in_ok-extend_from_slice-in-Some : goal.returns-in_ok-extend_from_slice-in-Some
returns-in_ok-extend_from_slice-in-Some c =
    c.in_ok-extend_from_slice-in-Some.ensures.items
    ∙ ap (λ (xs : List ℕ). c.args.pending.now.items ++ xs) (c.deref.ensures.value
    ∙ sym (found_at c.args.callees.now c.args.f c.in-Some.list.now c.in-Some.ensures.lookup.0 c.in-Some.ensures.lookup.1))

pub returns-in-None : goal.returns-in-None
returns-in-None c =
    sym (append-nil c.args.pending.now.items)
    ∙ ap (λ (xs : List ℕ). c.args.pending.now.items ++ xs) (sym (none_found c.args.callees.now c.args.f c.in-None.ensures.lookup.0))
