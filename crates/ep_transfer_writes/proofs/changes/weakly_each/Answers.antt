use Rattle.std.proofs.Common.{sym, subst, ◌∙◌}
use Rattle.ep_state_ranges.specs.HeldForms.{at_spot}
use Rattle.ep_transfer_writes.specs.Waiting.{view, item_view, Keeps}
use Rattle.ep_transfer_writes.proofs.Standing.{fits_at_each}
use Rattle.ep_transfer_writes.proofs.Changing.{weak_is, weak_keeps}
use Rattle.ep_transfer_writes.proofs.changes.weakly_each.Goals as goal

pub weaken_each-requires-clause-fits : goal.weaken_each-requires-clause-fits
weaken_each-requires-clause-fits g c =
    fits_at_each c.args.u.state.model c.args.c.now c.args.shared_stays c.args.spots.now c.requires.fits

pub returns-clause-value : goal.returns-clause-value
returns-clause-value g c =
    weak_is g.N.Num.ops c.args.u.state c.in_ok-after.after.0 (item_view c.args.u.item)
    (item_view c.with_forms-item.result) (at_spot c.args.c.now) c.args.shared_stays c.args.spots.now
    c.in_ok-held.held.items c.deref.result.now c.in_ok-held.ensures c.in_ok-after.ensures.state
    (c.deref.ensures.value ∙ c.in_ok-after.ensures.held) c.with_forms-item.ensures

pub returns-clause-keeps : goal.returns-clause-keeps
returns-clause-keeps g c =
    subst (Keeps (view c.args.u)) (sym (returns-clause-value g c))
    (weak_keeps g.N.Num.ops c.weak_each_laws.ensures (at_spot c.args.c.now) c.args.shared_stays c.args.spots.now
    (view c.args.u) c.requires.fits)
