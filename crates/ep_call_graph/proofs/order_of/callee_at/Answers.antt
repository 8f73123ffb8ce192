use Rattle.std.proofs.Common.{ℕ, List, sym, ap, ◌∙◌}
use Rattle.std.specs.Prelude.{slice_get}
use Rattle.ep_call_graph.proofs.Lists.{found_at, none_found}
use Rattle.ep_call_graph.proofs.order_of.callee_at.Goals as goal

pub returns-in-Some : goal.returns-in-Some
returns-in-Some c =
    c.number_at.ensures
    ∙ ap (λ (xs : List ℕ). slice_get xs c.args.frame.call) (c.deref.ensures.value
    ∙ sym (found_at c.args.callees.now c.args.frame.function c.in-Some.list.now c.in-Some.ensures.lookup.0 c.in-Some.ensures.lookup.1))

pub returns-in-None : goal.returns-in-None
returns-in-None c =
    sym (ap (λ (xs : List ℕ). slice_get xs c.args.frame.call)
    (none_found c.args.callees.now c.args.frame.function c.in-None.ensures.lookup.0))
