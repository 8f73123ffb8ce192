use Rattle.std.proofs.Common.{◌≡◌, Some, None, ◌+◌, drop, arith, ◌∙◌, sym, ap}
use Rattle.ep_cells.specs.Look.{cell_at}
use Rattle.ep_shared_parts.specs.Spread.{all_items}
use Rattle.ep_shared_parts.proofs.Steps.{items_at}
use Rattle.ep_bicells.proofs.Looking.{found_before, found_behind}
use Rattle.ep_bicells.proofs.cells.cell_in.Goals as goal

pub returns-in-Some : goal.returns-in-Some
returns-in-Some g c =
    let here = c.deref-in-loop-part.ensures.value ∙ ap (λ v. v.items) c.deref.ensures in
    let found = rw c.in-Some.is at c.cell_at.ensures in
    let e : cell_at c.args.model c.args.side c.args.block c.args.byte c.part-item.result.items.value.items ≡ Some c.in-Some.c.now = sym (found ∙ ap (cell_at c.args.model c.args.side c.args.block c.args.byte) here) in
    sym (sym c.loop-part.invariant ∙ ap (cell_at c.args.model c.args.side c.args.block c.args.byte) (items_at c.args.parts.now c.loop-part.part-index c.part-item.result (omega arith) c.part-item.is) ∙ found_before c.args.model c.args.side c.args.block c.args.byte c.in-Some.c.now c.part-item.result.items.value.items (all_items (drop (c.loop-part.part-index + 1) c.args.parts.now)) e)

pub loop-part-preserved : goal.loop-part-preserved
loop-part-preserved g c =
    let here = c.deref-in-loop-part.ensures.value ∙ ap (λ v. v.items) c.deref.ensures in
    let found = rw c.in_default.is at c.cell_at.ensures in
    let e : cell_at c.args.model c.args.side c.args.block c.args.byte c.part-item.result.items.value.items ≡ None = sym (found ∙ ap (cell_at c.args.model c.args.side c.args.block c.args.byte) here) in
    sym (ap (cell_at c.args.model c.args.side c.args.block c.args.byte) (items_at c.args.parts.now c.loop-part.part-index c.part-item.result (omega arith) c.part-item.is) ∙ found_behind c.args.model c.args.side c.args.block c.args.byte c.part-item.result.items.value.items (all_items (drop (c.loop-part.part-index + 1) c.args.parts.now)) e) ∙ c.loop-part.invariant
