use Rattle.std.proofs.Common.{◌∙◌, [], refl, sym, subst}
use Rattle.ep_int.specs.declared.types.Order.TheVariants.{Little, Big}
use Rattle.ep_cells.specs.States.{AreCells}
use Rattle.ep_shared_parts.specs.Spread.{all_items}
use Rattle.ep_bicells.specs.declared.changes.Step.TheVariants.{Blur}
use Rattle.ep_cell_steps.proofs.Changing.{same_change}
use Rattle.ep_cell_steps.proofs.blurs.blurred.Goals as goal

pub after-requires-clause-cells : goal.after-requires-clause-cells
after-requires-clause-cells g c =
    subst (AreCells c.args.model)
    (sym (same_change g.N.Num.ops c.args.model (Blur c.args.place) (Blur c.args.place) c.deref.result.now [] (all_items c.args.before.cells.items) refl (c.deref.ensures.value ∙ c.no_cells-new.ensures)))
    (c.blur_laws.ensures.cells (record { orders = (Little, Big); model = c.args.model; cells = all_items c.args.before.cells.items }) c.args.place c.requires.cells)

pub returns-clause-items : goal.returns-clause-items
returns-clause-items g c =
    c.in_ok-made.ensures.items
    ∙ same_change g.N.Num.ops c.args.model (Blur c.args.place) (Blur c.args.place) c.deref.result.now [] (all_items c.args.before.cells.items) refl (c.deref.ensures.value ∙ c.no_cells-new.ensures)
