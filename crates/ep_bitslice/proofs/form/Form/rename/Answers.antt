use Rattle.std.proofs.Common.{◌≡◌, length, length-append, sym, ap, ◌∙◌, subst, arith}
use Rattle.ep_bitslice.specs.Bits.{renamed}
use Rattle.ep_bitslice.specs.Segments.{AreSegments, bits, segment_bits}
use Rattle.ep_bitslice.proofs.Joining.{length-segment_bits}
use Rattle.ep_bitslice.proofs.Appending.{length-bits}
use Rattle.ep_bitslice.proofs.Numbers.{number-bits}
use Rattle.ep_bitslice.proofs.Operations.{number-renamed}
use Rattle.ep_bitslice.proofs.Walks.{segment_at}
use Rattle.ep_bitslice.proofs.Parts.{number_is, one_more, appended_length, length-renamed, renamed_step, drop_all}
use Rattle.ep_bitslice.proofs.Parts.{ahead_step, ahead_end, ahead_width, normal_is}
use Rattle.ep_bitslice.proofs.Parts.{width-renamed}
use Rattle.ep_bitslice.proofs.form.Form.rename.Goals as goal

pub renamed-segment-requires : goal.renamed-segment-requires
renamed-segment-requires c =
    let a = c.segments-s-items.ensures in
    segment_at c.segments-s-items.result.now _ _ (subst AreSegments (sym a.value) a.form.segments) c.loop-s-test.true

pub try_push-fits-requires-clause-short : goal.try_push-fits-requires-clause-short
try_push-fits-requires-clause-short c =
    let s = renamed_step c.segments-s-items.result.now _ _ c.renamed-segment.result c.args.from.now c.args.to.now c.loop-s-test.true c.renamed-segment.ensures.bits in
    omega (
      arith,
      ahead_width c.loop-s.after _ (renamed c.args.from.now c.args.to.now (bits c.args.self.now)) c.loop-s.invariant.ahead,
      length-renamed c.args.from.now c.args.to.now (bits c.args.self.now),
      length-bits c.args.self.now,
      c.segments-s-items.ensures.form.short,
      ap length s ∙ length-append (segment_bits c.renamed-segment.result) _,
      length-segment_bits c.renamed-segment.result,
    )

pub prove-unreachable-requires : goal.prove-unreachable-requires
prove-unreachable-requires c =
    one_more c.loop-s.after c.renamed-segment.result c.loop-s.invariant.form c.renamed-segment.ensures.segment
    (omega (arith, c.loop-s.invariant.few, c.segments-s-items.ensures.form.few, ap length c.segments-s-items.ensures.value)) (c.try_push-fits.ensures.full c.if-prove.true)

pub loop-s-preserved : goal.loop-s-preserved
loop-s-preserved c =
    let s = renamed_step c.segments-s-items.result.now _ _ c.renamed-segment.result c.args.from.now c.args.to.now c.loop-s-test.true c.renamed-segment.ensures.bits in
    let a = c.try_push-fits.ensures.appended c.if-prove.false in
    record {
      form = a.form;
      few = omega (arith, c.loop-s.invariant.few, appended_length c.loop-s.after c.try_push-fits.new.self c.renamed-segment.result c.loop-s.invariant.form c.renamed-segment.ensures.segment a);
      ahead = ahead_step c.loop-s.after c.try_push-fits.new.self (segment_bits c.renamed-segment.result) _ _ (renamed c.args.from.now c.args.to.now (bits c.args.self.now)) c.loop-s.invariant.ahead s a.bits_are;
    }

whole : (c : goal.After-loop-s) → bits c.loop-s.after ≡ renamed c.args.from.now c.args.to.now (bits c.args.self.now)
whole c =
    ahead_end c.loop-s.after _ (renamed c.args.from.now c.args.to.now (bits c.args.self.now)) c.loop-s.invariant.ahead
    (ap (λ ss. renamed c.args.from.now c.args.to.now (bits ss)) (drop_all c.segments-s-items.result.now c.loop-s.s-index c.loop-s-test.false))

pub returns-clause-value : goal.returns-clause-value
returns-clause-value c = normal_is c.loop-s.after (renamed c.args.from.now c.args.to.now (bits c.args.self.now)) c.loop-s.invariant.form (whole c)

pub returns-clause-number : goal.returns-clause-number
returns-clause-number c = λ n h.
    number_is n c.loop-s.after (renamed c.args.from.now c.args.to.now (bits c.args.self.now)) c.loop-s.invariant.form (whole c)
    ∙ number-renamed n c.args.from.now c.args.to.now (bits c.args.self.now) h
    ∙ sym (number-bits n c.args.self.now c.segments-s-items.ensures.form.segments)

pub returns-clause-bits : goal.returns-clause-bits
returns-clause-bits c = whole c

pub returns-clause-width : goal.returns-clause-width
returns-clause-width c = width-renamed c.loop-s.after c.args.self.now c.args.from.now c.args.to.now (whole c)
