use Rattle.std.proofs.Common.{◌∙◌, ap, sym, subst}
use Rattle.ep_bicells.specs.declared.changes.Step.TheVariants.{Blur}
use Rattle.ep_shared_parts.specs.Spread.{all_items}
use Rattle.ep_bicells.specs.Steps.{after_step, IsPlan}
use Rattle.ep_cell_steps.specs.PartsInvariant.{AreKept}
use Rattle.ep_cell_steps.proofs.Changing.{plan_within}
use Rattle.ep_cell_steps.proofs.Blurring.{blur_items, blur_kept}
use Rattle.ep_cell_steps.proofs.blurs.blur_at.Goals as goal

pub install-requires : goal.install-requires
install-requires g c =
    plan_within (after_step g.N.Num.ops c.args.model (Blur c.args.place)) c.reach-range.result.0 c.reach-range.result.1 (all_items c.args.uses.now) c.deref.result.now c.args.parts.now.items c.in_ok-edits.edits.items c.deref.ensures.value c.in_ok-edits.ensures

pub returns-clause-kept : goal.returns-clause-kept
returns-clause-kept g c =
    let w = subst (λ z. IsPlan (after_step g.N.Num.ops c.args.model (Blur c.args.place)) c.reach-range.result.0 c.reach-range.result.1 (all_items c.args.uses.now) z c.in_ok-edits.edits.items) c.deref.ensures.value c.in_ok-edits.ensures in
    subst (λ z. AreKept c.args.model z c.args.uses.now) (sym c.install.ensures) (blur_kept g.N.Num.ops c.args.model c.args.place c.reach-range.result.0 c.reach-range.result.1 c.args.uses.now c.args.parts.now.items c.in_ok-edits.edits.items c.requires c.blur_laws.ensures (record { first = c.reach-range.ensures.from; end = c.reach-range.ensures.last }) w)

pub returns-clause-ok : goal.returns-clause-ok
returns-clause-ok g c =
    let w = subst (λ z. IsPlan (after_step g.N.Num.ops c.args.model (Blur c.args.place)) c.reach-range.result.0 c.reach-range.result.1 (all_items c.args.uses.now) z c.in_ok-edits.edits.items) c.deref.ensures.value c.in_ok-edits.ensures in
    ap all_items c.install.ensures ∙ blur_items g.N.Num.ops c.args.model c.args.place c.reach-range.result.0 c.reach-range.result.1 c.args.uses.now c.args.parts.now.items c.in_ok-edits.edits.items c.requires (record { first = c.reach-range.ensures.from; end = c.reach-range.ensures.last }) w
