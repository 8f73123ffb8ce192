use Rattle.std.proofs.Common.{◌∙◌, [], ap, sym, subst}
use Rattle.ep_cells.specs.States.{AreCells}
use Rattle.ep_shared_parts.specs.Spread.{all_items}
use Rattle.ep_bicells.specs.declared.changes.Step.TheVariants.{WeakWrite}
use Rattle.ep_cell_steps.proofs.Changing.{same_change}
use Rattle.ep_cell_steps.proofs.weak_writes.weakened.Goals as goal

pub after-requires-clause-cells : goal.after-requires-clause-cells
after-requires-clause-cells g c =
    subst (AreCells c.args.model)
    (sym (same_change g.N.Num.ops c.args.model (WeakWrite c.in_ok-copy.copy c.args.shared_stays) (WeakWrite c.args.c.now c.args.shared_stays) c.deref.result.now [] (all_items c.args.before.cells.items) (ap (λ z. WeakWrite z c.args.shared_stays) c.in_ok-copy.ensures) (c.deref.ensures.value ∙ c.no_cells-new.ensures)))
    (c.weak_write_laws.ensures.cells c.args.model c.args.c.now c.args.shared_stays (all_items c.args.before.cells.items) c.requires.kept.cells c.requires.fits c.rises.ensures c.requires.stays)

pub returns-clause-items : goal.returns-clause-items
returns-clause-items g c =
    c.in_ok-made.ensures.items
    ∙ same_change g.N.Num.ops c.args.model (WeakWrite c.in_ok-copy.copy c.args.shared_stays) (WeakWrite c.args.c.now c.args.shared_stays) c.deref.result.now [] (all_items c.args.before.cells.items) (ap (λ z. WeakWrite z c.args.shared_stays) c.in_ok-copy.ensures) (c.deref.ensures.value ∙ c.no_cells-new.ensures)
