use Rattle.ep_shared_parts.specs.Spread.{all_items}
use Rattle.std.proofs.Common.{set}
use Rattle.ep_cell_steps.proofs.Killing.{put_done, put_short}
use Rattle.ep_cell_steps.proofs.putting.put.Goals as goal

pub returns-clause-spread : goal.returns-clause-spread
returns-clause-spread g c =
    (put_done c.args.c c.number_at-k.result c.place_for-at.result c.args.parts.now.items c.make_room.new.parts.items c.deref.result.now c.index_mut.result.now c.put_into.new.part c.requires.short c.make_room.ensures.items c.make_room.ensures.spread c.is_short.ensures c.number_at-k.ensures c.deref.ensures.value c.place_for-at.ensures.there c.place_for-at.ensures.within c.index_mut.ensures.value c.in_ok-put_into.ensures.start c.in_ok-put_into.ensures.items).1

pub returns-clause-items : goal.returns-clause-items
returns-clause-items g c =
    (put_done c.args.c c.number_at-k.result c.place_for-at.result c.args.parts.now.items c.make_room.new.parts.items c.deref.result.now c.index_mut.result.now c.put_into.new.part c.requires.short c.make_room.ensures.items c.make_room.ensures.spread c.is_short.ensures c.number_at-k.ensures c.deref.ensures.value c.place_for-at.ensures.there c.place_for-at.ensures.within c.index_mut.ensures.value c.in_ok-put_into.ensures.start c.in_ok-put_into.ensures.items).0

pub returns-clause-short : goal.returns-clause-short
returns-clause-short g c =
    put_short c.args.c (all_items c.args.parts.now.items) (all_items (set c.make_room.new.parts.items c.place_for-at.result c.put_into.new.part)) (put_done c.args.c c.number_at-k.result c.place_for-at.result c.args.parts.now.items c.make_room.new.parts.items c.deref.result.now c.index_mut.result.now c.put_into.new.part c.requires.short c.make_room.ensures.items c.make_room.ensures.spread c.is_short.ensures c.number_at-k.ensures c.deref.ensures.value c.place_for-at.ensures.there c.place_for-at.ensures.within c.index_mut.ensures.value c.in_ok-put_into.ensures.start c.in_ok-put_into.ensures.items).0 c.is_short.ensures c.requires.short
