use Rattle.std.proofs.Common.{◌≡◌, ℕ, ◌<◌, List, refl, ap, ◌∙◌, arith, length, get_or}
use Rattle.std.specs.Prelude.{slice_index, vec_len}
use Rattle.ep_call_graph.specs.ByCaller.{deepest_kept}
use Rattle.ep_call_graph.specs.View.{call_sites}
use Rattle.ep_call_graph.proofs.Lists.{len_is}
use Rattle.ep_call_graph.proofs.DepthLemmas.{below_on, in_order_at, right_on}
use Rattle.ep_call_graph.proofs.deep.depths.Goals as goal

pub loop-f-preserved : goal.loop-f-preserved
loop-f-preserved c =
    let i = c.loop-f.f-index in
    let ps = call_sites c.args.places.now in
    let fs = c.args.order.now in
    let f : ℕ = get_or c.args.order.now c.loop-f.f-index 0 in
    let b = below_on c.args.count i 0 fs c.loop-f-test.true c.loop-f.invariant.below in
    let inside : get_or c.args.order.now c.loop-f.f-index 0 < length c.loop-f.depths.items =
    let m : length c.loop-f.depths.items ≡ vec_len c.loop-f.depths = len_is c.loop-f.depths in
    let k : get_or c.args.order.now c.loop-f.f-index 0 < c.args.count = b.0 in omega (arith, m, k, c.loop-f.invariant.count) in
    record {
      count = c.loop-f.invariant.count;
      below = b.1;
      in_order = (in_order_at ps fs i 0 c.loop-f-test.true c.loop-f.invariant.in_order).1.1;
      right = right_on ps c.args.count c.requires.ranked.0 c.requires.ranked.1 fs c.loop-f.depths.items _ i 0 c.in_ok-depth.depth
          c.loop-f-test.true c.loop-f.invariant.in_order inside c.loop-f.invariant.right
          (c.in_ok-depth.ensures
          ∙ ap (λ (ds : List ℕ). deepest_kept (λ g. slice_index ds g) c.in_ok-groups.groups f) c.deref.ensures.value
          ∙ c.in_ok-groups.ensures (λ g. slice_index c.loop-f.depths.items g) f)
          refl;
    }
