use Rattle.std.proofs.Common.{refl, sym, subst, ◌∙◌}
use Rattle.ep_transfer_writes.specs.Waiting.{view, item_view, Keeps}
use Rattle.ep_transfer_writes.proofs.Copying.{range_new, range_is, range_keeps}
use Rattle.ep_transfer_writes.proofs.ranges.write_range.Goals as goal

pub replace-requires : goal.replace-requires
replace-requires g c =
    range_new c.args.u.state c.args.c.now c.args.bytes _ c.in_ok-new.new.items refl c.in_ok-new.ensures
    c.requires.stands c.requires.byte c.requires.room

pub returns-clause-value : goal.returns-clause-value
returns-clause-value g c =
    range_is g.N.Num.ops c.args.u.state c.in_ok-after.after.0 (item_view c.args.u.item)
    (item_view c.with_forms-item.result) c.args.c.now c.args.bytes _ c.in_ok-new.new.items c.in_ok-held.held.items
    c.deref.result.now refl c.in_ok-new.ensures c.in_ok-held.ensures c.in_ok-after.ensures.state
    (c.deref.ensures.value ∙ c.in_ok-after.ensures.held) c.with_forms-item.ensures

pub returns-clause-keeps : goal.returns-clause-keeps
returns-clause-keeps g c =
    subst (Keeps (view c.args.u)) (sym (returns-clause-value g c))
    (range_keeps g.N.Num.ops c.replace_laws.ensures c.args.c.now c.args.bytes (view c.args.u) c.model.ensures.cells)
