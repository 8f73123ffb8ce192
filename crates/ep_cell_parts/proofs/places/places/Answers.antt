use Rattle.std.proofs.Common.{◌∙◌, ap, ◌++◌, arith}
use Rattle.ep_cells.specs.Reshare.{places}
use Rattle.ep_shared_parts.specs.Spread.{all_items}
use Rattle.ep_cell_parts.proofs.Staying.{places_step}
use Rattle.ep_cell_parts.proofs.places.places.Goals as goal

pub loop-part-preserved : goal.loop-part-preserved
loop-part-preserved g c =
    let here = c.deref-in-loop-part.ensures.value ∙ ap (λ v. v.items) c.deref.ensures in
    places_step c.args.parts.now c.loop-part.part-index c.part-item.result c.loop-part.out.items c.push_places.new.out.items c.in_ok-more.more.items (places (all_items c.args.parts.now)) (omega (arith, c.loop-part-test.true)) c.part-item.is (c.in_ok-more.ensures ∙ ap places here) (c.in_ok-push_places.ensures ∙ ap (λ z. c.loop-part.out.items ++ z) c.deref-in-loop-part-2.ensures.value) c.loop-part.invariant
