use Rattle.std.proofs.Common.{take, arith, sym, subst}
use Rattle.std.proofs.lemmas.List.{take_more}
use Rattle.ep_shared_parts.specs.Spread.{all_items}
use Rattle.ep_shared_parts.specs.Mentions.{AllNoted}
use Rattle.ep_shared_parts.proofs.Mentioning.{notes_kept, notes_append}
use Rattle.ep_shared_parts.proofs.uses.note_form.Goals as goal

pub loop-s-preserved : goal.loop-s-preserved
loop-s-preserved c = record {
  spread = c.in_ok-note_segment.ensures.spread;
  keeps = λ v n. c.in_ok-note_segment.ensures.keeps v (c.loop-s.invariant.keeps v n);
  noted = subst (AllNoted (all_items c.note_segment.new.parts.items) c.args.by) (sym (take_more c.args.form.now c.loop-s.s-index _ (omega arith))) (notes_append (all_items c.note_segment.new.parts.items) c.args.by (take c.loop-s.s-index c.args.form.now) _ (notes_kept (all_items c.loop-s.parts.items) (all_items c.note_segment.new.parts.items) c.args.by (take c.loop-s.s-index c.args.form.now) (λ v n. c.in_ok-note_segment.ensures.keeps v n) c.loop-s.invariant.noted) c.in_ok-note_segment.ensures.noted);
}
