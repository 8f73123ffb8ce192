use Rattle.std.proofs.Common.{◌≡◌, ℕ, ◌<◌, false, get_or}
use Rattle.ep_cells.specs.declared.cell.Cell.{Cell}
use Rattle.ep_shared_parts.specs.declared.parts.Part.{Part}
use Rattle.ep_shared_parts.specs.Plans.{is_edited, AreEdits, KeepsEdits}
use Rattle.ep_bicells.specs.Steps.{after_step}
use Rattle.ep_cell_steps.specs.Killed.{ArePointless}
use Rattle.ep_cell_steps.proofs.pointers.push_pointers.Given as goal

abbrev pub invariant-loop-i : goal.invariant-loop-i
invariant-loop-i g l = record {
  edits : AreEdits (after_step g.N.Num.ops l.model l.step) l.parts l.out.items;
  keeps : KeepsEdits l.fn.out.items l.out.items;
  done : (k : ℕ) (q : Part (Cell g.row.N.Denot)) → k < l.i → is_edited k l.out.items ≡ false → ArePointless l.block (get_or l.parts k q).items.value.items;
}
