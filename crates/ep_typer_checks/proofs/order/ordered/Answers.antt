use Rattle.std.proofs.Common.{◌∙◌, get_or, map}
use Rattle.ep_core.specs.View.{function_view}
use Rattle.ep_defined.specs.View.{defined}
use Rattle.ep_call_graph.proofs.DepthLemmas.{below_on}
use Rattle.ep_typer_checks.specs.Placed.{slot}
use Rattle.ep_typer_checks.proofs.Ordering.{once_at}
use Rattle.ep_typer_checks.proofs.Placing.{added_on, not_among}
use Rattle.ep_typer_checks.proofs.order.ordered.Goals as goal

pub loop-f-preserved : goal.loop-f-preserved
loop-f-preserved c =
    let i = c.loop-f.f-index in
    let fs = c.args.order.now in
    let ds = map defined c.args.defined.items in
    let here = once_at fs i 0 c.loop-f-test.true c.loop-f.invariant.once in
    record {
      count = c.in_ok-add.ensures.count ∙ c.loop-f.invariant.count;
      once = here.1;
      below = (below_on c.args.count i 0 fs c.loop-f-test.true c.loop-f.invariant.below).1;
      left = λ g h.
          let p = not_among fs c.in_ok-places.places.items c.deref.result.now c.deref.ensures.value c.in_ok-places.ensures ds i 0 c.loop-f-test.true g h in
          c.in_ok-add.ensures.others g p.1 ∙ c.loop-f.invariant.left g p.0;
      done = added_on fs c.in_ok-places.places.items c.deref.result.now c.deref.ensures.value c.in_ok-places.ensures ds i 0 c.loop-f-test.true
          (map function_view c.loop-f.functions.items) (map function_view c.add.new.all.items) _ (slot c.loop-f.slots.items (get_or fs i 0))
          (c.loop-f.invariant.left (get_or fs i 0) here.0) c.in_ok-add.ensures.added c.loop-f.invariant.done;
    }
