use Rattle.std.proofs.Common.{◌-◌, ◌∙◌, ap, set, length, arith}
use Rattle.ep_shared_parts.specs.Spread.{outlines, parts_to}
use Rattle.ep_shared_parts.specs.Mentions.{number_of}
use Rattle.ep_cell_parts.proofs.Valuing.{spot_of, set_outlines, same_outline, valued_items, valued_none, valued_kept}
use Rattle.ep_cell_parts.proofs.values.set_value_at.Goals as goal

pub returns-then-i-eq0-clause-ok : goal.returns-then-i-eq0-clause-ok
returns-then-i-eq0-clause-ok g c =
    valued_none c.args.c.now c.args.c.now.value c.number_at.result c.parts_to-i.result c.args.parts.now.items c.number_at.ensures c.requires.spread (c.parts_to-i.ensures ∙ ap (λ x. parts_to c.number_at.result (outlines number_of x)) c.deref.ensures.value) c.if-i-eq0.true

pub index-requires : goal.index-requires
index-requires g c =
    let spot = spot_of c.number_at.result c.parts_to-i.result c.deref.result.now c.args.parts.now.items c.deref.ensures.value c.parts_to-i.ensures c.if-i-eq0.false in
    omega (arith, spot.1, c.deref.ensures.len, ap length c.deref.ensures.value)

pub index_mut-requires : goal.index_mut-requires
index_mut-requires g c =
    let spot = spot_of c.number_at.result c.parts_to-i.result c.deref.result.now c.args.parts.now.items c.deref.ensures.value c.parts_to-i.ensures c.if-i-eq0.false in
    omega (arith, spot.1, c.deref.ensures.len, ap length c.deref.ensures.value)

pub returns-clause-kept : goal.returns-clause-kept
returns-clause-kept g c = λ us k.
    let spot = spot_of c.number_at.result c.parts_to-i.result c.deref.result.now c.args.parts.now.items c.deref.ensures.value c.parts_to-i.ensures c.if-i-eq0.false in
    valued_kept c.args.model c.args.c.now c.args.parts.now.items (set c.args.parts.now.items (c.parts_to-i.result - 1) c.in_ok-part.part) us k c.requires.sort c.requires.some c.rises.ensures (set_outlines number_of c.args.parts.now.items (c.parts_to-i.result - 1) c.index.result.now c.in_ok-part.part c.index.ensures (same_outline c.args.c.now c.args.c.now.value c.index.result.now c.in_ok-part.part c.in_ok-part.ensures.start c.in_ok-part.ensures.items)) (valued_items c.args.c.now c.args.c.now.value c.number_at.result (c.parts_to-i.result - 1) c.args.parts.now.items c.index.result.now c.in_ok-part.part c.number_at.ensures c.requires.spread spot.0 spot.1 c.index.ensures c.in_ok-part.ensures.items)

pub returns-clause-ok : goal.returns-clause-ok
returns-clause-ok g c =
    let spot = spot_of c.number_at.result c.parts_to-i.result c.deref.result.now c.args.parts.now.items c.deref.ensures.value c.parts_to-i.ensures c.if-i-eq0.false in
    valued_items c.args.c.now c.args.c.now.value c.number_at.result (c.parts_to-i.result - 1) c.args.parts.now.items c.index.result.now c.in_ok-part.part c.number_at.ensures c.requires.spread spot.0 spot.1 c.index.ensures c.in_ok-part.ensures.items
