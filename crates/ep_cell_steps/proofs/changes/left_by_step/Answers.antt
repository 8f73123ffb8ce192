use Rattle.std.proofs.Common.{subst}
use Rattle.ep_shared_parts.specs.Spread.{all_items}
use Rattle.ep_bicells.specs.Steps.{after_step}
use Rattle.ep_bicells.specs.Standing.{AreSpanned}
use Rattle.ep_cell_steps.proofs.Standing.{left_standing, edits_fit}
use Rattle.ep_cell_steps.proofs.changes.left_by_step.Goals as goal

pub install-requires : goal.install-requires
install-requires g c =
    edits_fit g.N.Num.ops c.args.model c.args.step.now c.range-range.result.0 c.range-range.result.1 c.span-span.result.0 c.span-span.result.1 (all_items c.args.uses.now) c.args.parts.items c.deref.result.now c.change_parts.new.parts.items c.in_ok-edits.edits.items c.deref.ensures.value c.in_ok-edits.ensures (subst (λ z. AreSpanned (after_step g.N.Num.ops c.args.model c.args.step.now) c.span-span.result.0 c.span-span.result.1 z c.args.parts.items c.change_parts.new.parts.items) c.deref-3.ensures.value c.in_ok-change_parts.ensures)

pub returns : goal.returns
returns g c =
    left_standing g.N.Num.ops c.args.model c.args.step.now c.range-range.result.0 c.range-range.result.1 c.span-span.result.0 c.span-span.result.1 c.args.uses.now c.args.parts.items c.deref.result.now c.deref-2.result.now c.change_parts.new.parts.items c.install.new.parts.items c.in_ok-edits.edits.items c.requires c.deref.ensures.value c.deref-2.ensures.value c.range-range.ensures.reached c.in_ok-edits.ensures c.span-span.ensures.within c.span-span.ensures.below c.span-span.ensures.above (subst (λ z. AreSpanned (after_step g.N.Num.ops c.args.model c.args.step.now) c.span-span.result.0 c.span-span.result.1 z c.args.parts.items c.change_parts.new.parts.items) c.deref-3.ensures.value c.in_ok-change_parts.ensures) c.install.ensures
