use Rattle.std.proofs.Common.{◌∙◌, ◌+◌, None, drop, get_or}
use Rattle.ep_elaboration.specs.Calls.{call_sites_in, deepest}
use Rattle.ep_call_graph.specs.declared.places.CallSite.{CallSite}
use Rattle.ep_call_graph.specs.ByCaller.{deepest_kept}
use Rattle.ep_call_graph.specs.View.{call_site, call_sites}
use Rattle.ep_call_graph.proofs.Lists.{places_front, within_front}
use Rattle.ep_call_graph.proofs.DepthLemmas.{step_deep}
use Rattle.ep_call_graph.proofs.deep.grouped.Goals as goal

pub loop-place-preserved : goal.loop-place-preserved
loop-place-preserved c =
    let none : CallSite = record { caller = 0; depth = 0; line = 0; callee = None } in
    let i = c.loop-place.place-index in
    record {
      deepest_count = c.in_ok-add.ensures.deepest ∙ c.loop-place.invariant.deepest_count;
      calling_count = c.in_ok-add.ensures.calling ∙ c.loop-place.invariant.calling_count;
      within = (within_front c.args.count i c.args.places.now none c.loop-place-test.true c.loop-place.invariant.within).1;
      deep = λ below f. step_deep below (call_sites (drop i c.args.places.now)) (call_sites (drop (i + 1) c.args.places.now))
          (call_site (get_or c.args.places.now i none)) f (deepest_kept below c.loop-place.groups f) (deepest_kept below c.add.new.groups f)
          (deepest below (call_sites_in (call_sites c.args.places.now) f)) (places_front i c.args.places.now none c.loop-place-test.true)
          (c.in_ok-add.ensures.deeper below f) (c.loop-place.invariant.deep below f);
    }
