use Rattle.std.proofs.Common.{sym, subst, ◌∙◌}
use Rattle.ep_transfer_writes.specs.Waiting.{view, item_view, Keeps}
use Rattle.ep_transfer_writes.proofs.Changing.{stands_new, strong_is, strong_keeps}
use Rattle.ep_transfer_writes.proofs.changes.strongly.Goals as goal

pub replace-requires : goal.replace-requires
replace-requires g c =
    stands_new c.args.u.state c.args.c c.place_of-place.result c.in_ok-new.new.items c.model.result c.model.ensures.value
    c.place_of-place.ensures c.in_ok-new.ensures c.requires

pub returns-clause-value : goal.returns-clause-value
returns-clause-value g c =
    strong_is g.N.Num.ops c.args.u.state c.in_ok-after.after.0 (item_view c.args.u.item)
    (item_view c.with_forms-item.result) c.args.c c.place_of-place.result c.in_ok-new.new.items c.model.result
    c.in_ok-held.held.items c.deref.result.now c.model.ensures.value c.place_of-place.ensures c.in_ok-new.ensures
    c.in_ok-held.ensures c.in_ok-after.ensures.state (c.deref.ensures.value
    ∙ c.in_ok-after.ensures.held) c.with_forms-item.ensures

pub returns-clause-keeps : goal.returns-clause-keeps
returns-clause-keeps g c =
    subst (Keeps (view c.args.u)) (sym (returns-clause-value g c))
    (strong_keeps g.N.Num.ops c.replace_laws.ensures c.args.c (view c.args.u) c.model.ensures.cells)
