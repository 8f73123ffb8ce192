use Rattle.std.proofs.Common.{sym, subst, ◌∙◌}
use Rattle.ep_transfer_writes.specs.Waiting.{view, item_view, Keeps}
use Rattle.ep_transfer_writes.proofs.Changing.{blur_is, blur_keeps}
use Rattle.ep_transfer_writes.proofs.runs.blurred_side.Goals as goal

pub returns-clause-value : goal.returns-clause-value
returns-clause-value g c =
    blur_is g.N.Num.ops c.args.underway.state c.in_ok-after.after.0 (item_view c.args.underway.item)
    (item_view c.with_forms-item.result) c.args.side c.args.bytes c.args.spots.now c.in_ok-held.held.items
    c.deref.result.now c.in_ok-held.ensures c.in_ok-after.ensures.state (c.deref.ensures.value
    ∙ c.in_ok-after.ensures.held)
    c.with_forms-item.ensures

pub returns-clause-keeps : goal.returns-clause-keeps
returns-clause-keeps g c =
    subst (Keeps (view c.args.underway)) (sym (returns-clause-value g c))
    (blur_keeps g.N.Num.ops c.blur_laws.ensures c.args.side c.args.bytes c.args.spots.now (view c.args.underway))
