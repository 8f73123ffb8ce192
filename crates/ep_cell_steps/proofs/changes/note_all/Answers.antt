use Rattle.std.proofs.Common.{arith}
use Rattle.ep_shared_parts.specs.Spread.{all_items}
use Rattle.ep_cell_steps.proofs.Making.{indexed_step, indexed_end}
use Rattle.ep_cell_steps.proofs.changes.note_all.Goals as goal

pub loop-c-preserved : goal.loop-c-preserved
loop-c-preserved g c = record {
  spread = c.in_ok-note_cell.ensures.spread;
  keeps = λ v n. c.in_ok-note_cell.ensures.keeps v (c.loop-c.invariant.keeps v n);
  noted = indexed_step (all_items c.loop-c.uses.items) (all_items c.note_cell.new.uses.items) c.args.cells.now c.loop-c.c-index c.c-item.result (omega arith) c.c-item.is (λ v n. c.in_ok-note_cell.ensures.keeps v n) c.in_ok-note_cell.ensures.noted c.loop-c.invariant.noted;
}

pub returns-clause-indexed : goal.returns-clause-indexed
returns-clause-indexed g c =
    indexed_end (all_items c.loop-c.uses.items) c.args.cells.now c.loop-c.c-index (omega arith) c.loop-c.invariant.noted
