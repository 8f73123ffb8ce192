use Rattle.std.proofs.Common.{refl, subst}
use Rattle.ep_shared_parts.specs.Spread.{all_items}
use Rattle.ep_shared_parts.specs.Mentions.{AreIndexed}
use Rattle.ep_cell_steps.proofs.Changing.{changed_items, changed_kept}
use Rattle.ep_cell_steps.proofs.changes.after.Goals as goal

pub returns-clause-items : goal.returns-clause-items
returns-clause-items g c =
    changed_items g.N.Num.ops c.args.model c.args.step.now c.args.new.now c.in_ok-made.made.items (all_items c.args.before.cells.items) (all_items c.in_ok-cells.cells.items) (all_items c.put_all.new.parts.items) c.in_ok-cells.ensures.items c.in_ok-made.ensures c.in_ok-put_all.ensures.items

pub returns-clause-kept : goal.returns-clause-kept
returns-clause-kept g c =
    changed_kept g.N.Num.ops c.args.model c.args.step.now c.args.before.uses.items c.args.before.uses.items c.note_all.new.uses.items c.args.before.cells.items c.put_all.new.parts.items c.args.new.now c.in_ok-made.made.items (all_items c.in_ok-cells.cells.items) c.requires.kept c.requires.cells c.in_ok-cells.ensures.items c.in_ok-made.ensures c.in_ok-put_all.ensures.items c.in_ok-put_all.ensures.spread refl (λ u h. c.note_all.ensures.keeps u h) c.note_all.ensures.spread (subst (AreIndexed (all_items c.note_all.new.uses.items)) c.deref-2.ensures.value c.in_ok-note_all.ensures.indexed)
