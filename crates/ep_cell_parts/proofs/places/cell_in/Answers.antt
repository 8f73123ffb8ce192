use Rattle.std.proofs.Common.{◌≡◌, Some, None, ◌+◌, drop, arith, ◌∙◌, sym, ap}
use Rattle.ep_cells.specs.Reshare.{cell_from}
use Rattle.ep_shared_parts.specs.Spread.{all_items}
use Rattle.ep_shared_parts.proofs.Steps.{items_at}
use Rattle.ep_cell_parts.proofs.Staying.{from_before, from_behind}
use Rattle.ep_cell_parts.proofs.places.cell_in.Goals as goal

pub returns-in-Some : goal.returns-in-Some
returns-in-Some g c =
    let here = c.deref-in-loop-part.ensures.value ∙ ap (λ v. v.items) c.deref.ensures in
    let found = rw c.in-Some.is at c.cell_from.ensures in
    let e : cell_from c.args.side c.args.block c.args.offset c.part-item.result.items.value.items ≡ Some c.in-Some.x.now = sym (found ∙ ap (cell_from c.args.side c.args.block c.args.offset) here) in
    sym (sym c.loop-part.invariant ∙ ap (cell_from c.args.side c.args.block c.args.offset) (items_at c.args.parts.now c.loop-part.part-index c.part-item.result (omega arith) c.part-item.is) ∙ from_before c.args.side c.args.block c.args.offset c.in-Some.x.now c.part-item.result.items.value.items (all_items (drop (c.loop-part.part-index + 1) c.args.parts.now)) e)

pub loop-part-preserved : goal.loop-part-preserved
loop-part-preserved g c =
    let here = c.deref-in-loop-part.ensures.value ∙ ap (λ v. v.items) c.deref.ensures in
    let found = rw c.in_default.is at c.cell_from.ensures in
    let e : cell_from c.args.side c.args.block c.args.offset c.part-item.result.items.value.items ≡ None = sym (found ∙ ap (cell_from c.args.side c.args.block c.args.offset) here) in
    sym (ap (cell_from c.args.side c.args.block c.args.offset) (items_at c.args.parts.now c.loop-part.part-index c.part-item.result (omega arith) c.part-item.is) ∙ from_behind c.args.side c.args.block c.args.offset c.part-item.result.items.value.items (all_items (drop (c.loop-part.part-index + 1) c.args.parts.now)) e) ∙ c.loop-part.invariant
