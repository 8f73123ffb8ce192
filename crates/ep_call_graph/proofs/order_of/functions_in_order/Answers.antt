use Rattle.std.proofs.Common.{◌≡◌, ℕ, suc, ◌+◌, List, [], sym, ap, ◌∙◌, subst, arith, get_or}
use Rattle.std.proofs.lemmas.Option.{slice_get-get_or}
use Rattle.std.specs.Global.{Vec}
use Rattle.ep_elaboration.specs.Calls.{callees, calls_of, one_after_another, with_function}
use Rattle.ep_call_graph.specs.Search.{AreAll}
use Rattle.ep_call_graph.specs.View.{listed, call_sites}
use Rattle.ep_call_graph.proofs.Lists.{len_is}
use Rattle.ep_call_graph.specs.Visit.{IsOrder}
use Rattle.ep_call_graph.proofs.DepthLemmas.{below_on}
use Rattle.ep_call_graph.proofs.Among.{among, all_among}
use Rattle.ep_call_graph.proofs.Visits.{flags_below, one_on, visit_is}
use Rattle.ep_call_graph.proofs.order_of.functions_in_order.Goals as goal

pub visit-requires-clause-all : goal.visit-requires-clause-all
visit-requires-clause-all c =
    subst (λ (n : ℕ). AreAll n (listed c.deref.result.now)) (sym c.loop-f.invariant.count)
    (subst (λ (ls : List (Vec ℕ)). AreAll c.args.count (listed ls)) (sym c.deref.ensures.value)
    (all_among (listed c.in_ok-lists.lists.items) (calls_of (call_sites c.args.places.now)) c.in_ok-lists.ensures.lists c.args.count
    (among c.args.count (call_sites c.args.places.now) c.requires.within)))

pub loop-f-preserved : goal.loop-f-preserved
loop-f-preserved c =
    let i = c.loop-f.f-index in
    let fs = c.args.functions.now in
    let cs = calls_of (call_sites c.args.places.now) in
    let same : (f : ℕ) → listed c.deref.result.now f ≡ callees cs f =
    λ f. ap (λ (ls : List (Vec ℕ)). listed ls f) c.deref.ensures.value ∙ c.in_ok-lists.ensures.lists f in
    let order =
    subst (λ (ls : List (Vec ℕ)). IsOrder c.args.count (listed ls) c.visit.new.self) c.deref.ensures.value
    (subst (λ (n : ℕ). IsOrder n (listed c.deref.result.now) c.visit.new.self) c.loop-f.invariant.count c.in_ok-visit.ensures.order) in
    let more : i + 1 ≡ suc i = omega arith in
    record {
      count = sym (len_is c.visit.new.self.has) ∙ order.flags.count;
      order = order;
      none = c.in_ok-visit.ensures.none;
      below = (below_on c.args.count i 0 fs c.loop-f-test.true c.loop-f.invariant.below).1;
      done = one_on (with_function cs c.args.count) c.loop-f.order.done.items c.visit.new.self.done.items
          (one_after_another (with_function cs c.args.count) [] fs) i (i + 1) (get_or c.args.functions.now c.loop-f.f-index 0) fs more
          (slice_get-get_or c.args.functions.now c.loop-f.f-index 0 c.loop-f-test.true)
          (c.in_ok-visit.ensures.visits (with_function cs c.args.count)
          (visit_is (listed c.deref.result.now) cs c.args.count c.requires.ranked.0 c.requires.ranked.1 same))
          c.loop-f.invariant.done;
    }

pub returns-clause-below : goal.returns-clause-below
returns-clause-below c = flags_below c.args.count c.loop-f.order.has.items c.loop-f.order.done.items c.loop-f.invariant.order.flags
