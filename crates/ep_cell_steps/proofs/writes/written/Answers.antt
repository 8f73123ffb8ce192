use Rattle.std.proofs.Common.{◌∙◌, [], ◌∷◌, ap, sym, subst}
use Rattle.ep_cells.specs.Cells.{place_of}
use Rattle.ep_cells.specs.States.{AreCells}
use Rattle.ep_cells.proofs.Write.{write_cells}
use Rattle.ep_shared_parts.specs.Spread.{all_items}
use Rattle.ep_bicells.specs.declared.changes.Step.TheVariants.{Write}
use Rattle.ep_cell_steps.proofs.Changing.{same_change}
use Rattle.ep_cell_steps.proofs.writes.written.Goals as goal

pub after-requires-clause-cells : goal.after-requires-clause-cells
after-requires-clause-cells g c =
    subst (AreCells c.args.model)
    (sym (same_change g.N.Num.ops c.args.model (Write c.place_of.result) (Write (place_of c.args.model c.args.c)) c.deref.result.now (c.args.c ∷ []) (all_items c.args.before.cells.items) (ap Write c.place_of.ensures) (c.deref.ensures.value ∙ c.in_ok-new.ensures)))
    (write_cells c.args.model c.args.c (all_items c.args.before.cells.items) c.requires.kept.cells c.requires.can c.rises.ensures)

pub returns-clause-items : goal.returns-clause-items
returns-clause-items g c =
    c.in_ok-made.ensures.items
    ∙ same_change g.N.Num.ops c.args.model (Write c.place_of.result) (Write (place_of c.args.model c.args.c)) c.deref.result.now (c.args.c ∷ []) (all_items c.args.before.cells.items) (ap Write c.place_of.ensures) (c.deref.ensures.value ∙ c.in_ok-new.ensures)
