use Rattle.std.proofs.Common.{subst, ◌∙◌}
use Rattle.ep_shared_parts.specs.Spread.{all_items}
use Rattle.ep_shared_parts.specs.Mentions.{AllNoted}
use Rattle.ep_cell_steps.proofs.Making.{indexed_some}
use Rattle.ep_cell_steps.proofs.building.note_cell.Goals as goal

pub returns-in_ok-note_form-in-Some-clause-noted : goal.returns-in_ok-note_form-in-Some-clause-noted
returns-in_ok-note_form-in-Some-clause-noted g c =
    indexed_some (all_items c.note_form.new.parts.items) c.args.c.now c.in-Some.f c.number_at.result c.in-Some.is c.number_at.ensures (subst (AllNoted (all_items c.note_form.new.parts.items) c.number_at.result) (c.segments.ensures.value ∙ c.form.ensures) c.in_ok-note_form-in-Some.ensures.noted)
