use Rattle.ep_shared_parts.specs.Spread.{all_items}
use Rattle.ep_cell_steps.proofs.Weakening.{weakened_from}
use Rattle.ep_cell_steps.proofs.weak_writes.edits_of_weak_write.Goals as goal

pub returns : goal.returns
returns g c =
    weakened_from g.N.Num.ops c.args.model c.args.c.now c.in_ok-copy_cell.field-0 c.place_of.result c.args.shared_stays c.reach-range.result.0 c.reach-range.result.1 (all_items c.args.uses.now) c.args.parts.now c.in_ok-edits.edits.items c.place_of.ensures c.in_ok-copy_cell.ensures (record { first = c.reach-range.ensures.from; end = c.reach-range.ensures.last }) c.in_ok-edits.ensures
