use Rattle.std.proofs.Common.{◌≡◌, List, sym, ap, ◌∙◌, subst, IfOk}
use Rattle.std.specs.Prelude.{slice_index}
use Rattle.ep_elaboration.specs.Calls as rule
use Rattle.ep_call_graph.specs.declared.places.CallSite.{CallSite}
use Rattle.ep_call_graph.specs.View.{call_sites}
use Rattle.ep_call_graph.proofs.Lists.{found_at, none_found}
use Rattle.ep_call_graph.proofs.deep.deepest_call.Goals as goal

pub returns-in-None : goal.returns-in-None
returns-in-None c =
    sym (ap (λ (ps : List CallSite). rule.deepest (λ g. slice_index c.args.depths.now g) (call_sites ps))
    (none_found c.args.calling.now c.args.f c.in-None.ensures.lookup.0))

pub returns-in-Some : goal.returns-in-Some
returns-in-Some c =
    subst (λ (ps : List CallSite). IfOk c.deepest.result (λ d. d ≡ rule.deepest (λ g. slice_index c.args.depths.now g) (call_sites ps)))
    (c.deref.ensures.value
    ∙ sym (found_at c.args.calling.now c.args.f c.in-Some.places.now c.in-Some.ensures.lookup.0 c.in-Some.ensures.lookup.1))
    c.deepest.ensures
