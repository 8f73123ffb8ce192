use Rattle.std.proofs.Common.{◌∙◌, ◌+◌, None, drop, get_or}
use Rattle.ep_elaboration.specs.Calls.{callees, calls_of}
use Rattle.ep_call_graph.specs.declared.places.CallSite.{CallSite}
use Rattle.ep_call_graph.specs.View.{listed, call_site, call_sites}
use Rattle.ep_call_graph.proofs.Lists.{step_calls, places_front, within_front}
use Rattle.ep_call_graph.proofs.places.callees.Goals as goal

pub loop-place-preserved : goal.loop-place-preserved
loop-place-preserved c =
    let none : CallSite = record { caller = 0; depth = 0; line = 0; callee = None } in
    let i = c.loop-place.place-index in
    record {
      count = c.in_ok-add_call.ensures.count ∙ c.loop-place.invariant.count;
      within = (within_front c.args.count i c.args.places.now none c.loop-place-test.true c.loop-place.invariant.within).1;
      lists = λ f. step_calls (call_sites (drop i c.args.places.now)) (call_sites (drop (i + 1) c.args.places.now))
          (call_site (get_or c.args.places.now i none)) f (listed c.loop-place.lists.items f) (listed c.add_call.new.lists.items f)
          (callees (calls_of (call_sites c.args.places.now)) f) (places_front i c.args.places.now none c.loop-place-test.true)
          (c.in_ok-add_call.ensures.added f) (c.loop-place.invariant.lists f);
    }
