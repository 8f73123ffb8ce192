use Rattle.std.proofs.Common.{◌≡◌, max, drop}
use Rattle.std.specs.Prelude.{slice_index}
use Rattle.ep_elaboration.specs.Calls as rule
use Rattle.ep_call_graph.specs.View.{call_sites}
use Rattle.ep_call_graph.proofs.deep.deepest.Given as goal

abbrev pub invariant-loop-place : goal.invariant-loop-place
invariant-loop-place l =
    max l.deep (rule.deepest (λ g. slice_index l.depths g) (call_sites (drop l.place-index l.places)))
    ≡ rule.deepest (λ g. slice_index l.depths g) (call_sites l.places)
