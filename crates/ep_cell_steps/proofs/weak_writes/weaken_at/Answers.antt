use Rattle.std.proofs.Common.{◌∙◌, ap, sym, subst}
use Rattle.ep_shared_parts.specs.Spread.{all_items}
use Rattle.ep_cell_steps.specs.PartsInvariant.{AreKept}
use Rattle.ep_cell_steps.specs.Weakened.{AreWeakened}
use Rattle.ep_cell_steps.proofs.Weakening.{weak_done, weak_within, weak_kept}
use Rattle.ep_cell_steps.proofs.weak_writes.weaken_at.Goals as goal

pub install-requires : goal.install-requires
install-requires g c =
    weak_within g.N.Num.ops c.args.model c.args.c.now c.args.shared_stays (all_items c.args.uses.now) c.args.parts.now.items c.in_ok-edits.edits.items (subst (λ z. AreWeakened g.N.Num.ops c.args.model c.args.c.now c.args.shared_stays (all_items c.args.uses.now) z c.in_ok-edits.edits.items) c.deref.ensures.value c.in_ok-edits.ensures)

pub returns-clause-kept : goal.returns-clause-kept
returns-clause-kept g c =
    let a = subst (λ z. AreWeakened g.N.Num.ops c.args.model c.args.c.now c.args.shared_stays (all_items c.args.uses.now) z c.in_ok-edits.edits.items) c.deref.ensures.value c.in_ok-edits.ensures in
    subst (λ z. AreKept c.args.model z c.args.uses.now) (sym c.install.ensures) (weak_kept g.N.Num.ops c.args.model c.args.c.now c.args.shared_stays c.args.uses.now c.args.parts.now.items c.in_ok-edits.edits.items c.requires.kept c.weak_write_laws.ensures c.requires.fits c.rises.ensures c.requires.stays a)

pub returns-clause-ok : goal.returns-clause-ok
returns-clause-ok g c =
    let a = subst (λ z. AreWeakened g.N.Num.ops c.args.model c.args.c.now c.args.shared_stays (all_items c.args.uses.now) z c.in_ok-edits.edits.items) c.deref.ensures.value c.in_ok-edits.ensures in
    ap all_items c.install.ensures ∙ (weak_done g.N.Num.ops c.args.model c.args.c.now c.args.shared_stays c.args.uses.now c.args.parts.now.items c.in_ok-edits.edits.items c.requires.kept c.requires.stays a).0
