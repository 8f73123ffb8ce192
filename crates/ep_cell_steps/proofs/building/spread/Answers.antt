use Rattle.std.proofs.Common.{◌≡◌, ◌∙◌, [], sym}
use Rattle.std.proofs.lemmas.List.{nil_from_length}
use Rattle.std.specs.Vec.Iter.{into_iter_items}
use Rattle.ep_cell_steps.proofs.Cutting.{starts, all_closed, all_there}
use Rattle.ep_cell_steps.proofs.building.spread.Goals as goal

pub loop-c-init : goal.loop-c-init
loop-c-init g c =
    let s = starts c.args.model c.new-parts.result.items c.in_ok-with_room.field-0.items
    (into_iter_items c.into_iter-c-iterator.result) c.args.cells.items c.new-parts.ensures.items
    c.in_ok-with_room.ensures c.into_iter-c-iterator.ensures.into_iter_gives.0 c.requires in
    record { is = s.0; rising = s.1; whole = s.2 }

pub returns-clause-spread : goal.returns-clause-spread
returns-clause-spread g c =
    all_closed c.loop-c.parts.items c.push.new.out.items c.in_ok-part.part c.loop-c.growing.start c.loop-c.growing.last
    c.loop-c.growing.cells.items c.loop-c.invariant.is c.in_ok-push.ensures c.in_ok-part.ensures.start
    c.in_ok-part.ensures.items

pub returns-clause-items : goal.returns-clause-items
returns-clause-items g c =
    let none : into_iter_items c.loop-c.c-iterator ≡ [] = nil_from_length (into_iter_items c.loop-c.c-iterator)
    (sym c.loop-c.c-iterator.rest.ok.0 ∙ c.in-None.ensures.steps.0) in
    all_there c.loop-c.parts.items c.push.new.out.items c.in_ok-part.part c.loop-c.growing.cells.items
    (into_iter_items c.loop-c.c-iterator) c.args.cells.items c.in_ok-push.ensures c.in_ok-part.ensures.items none
    c.loop-c.invariant.whole
