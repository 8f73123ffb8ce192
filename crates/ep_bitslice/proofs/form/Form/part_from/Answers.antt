use Rattle.std.proofs.Common.{◌≡◌, ◌<◌, ◌≤◌, length, drop, subst, sym, ap, ◌∙◌, arith}
use Rattle.ep_bitslice.specs.Segments.{AreSegments, bits}
use Rattle.ep_bitslice.proofs.Walks.{segment_at, width_there, width_past, bits_past, bits_rest}
use Rattle.ep_bitslice.proofs.form.Form.part_from.Goals as goal

pub width-requires : goal.width-requires
width-requires c =
    let a = c.segments-segments.ensures in
    let h : c.loop-rest.index < length c.segments-segments.result.now = width_there c.segments-segments.result.now c.loop-rest.index (omega arith) in
    segment_at c.segments-segments.result.now c.loop-rest.index _ (subst AreSegments (sym a.value) a.form.segments) h

pub width-rest-requires : goal.width-rest-requires
width-rest-requires c =
    let a = c.segments-segments.ensures in
    let h : c.loop-rest.index < length c.segments-segments.result.now = width_there c.segments-segments.result.now c.loop-rest.index (omega arith) in
    segment_at c.segments-segments.result.now c.loop-rest.index _ (subst AreSegments (sym a.value) a.form.segments) h

pub loop-rest-preserved : goal.loop-rest-preserved
loop-rest-preserved c =
    let ss = c.segments-segments.result.now in
    let h : c.loop-rest.index < length c.segments-segments.result.now = width_there ss c.loop-rest.index (omega arith) in
    let same : c.width-rest.result ≡ c.width.result = c.width-rest.ensures ∙ sym c.width.ensures in
    let low : c.width-rest.result ≤ c.loop-rest.rest = omega arith in
    let i = c.loop-rest.invariant in
    let p = width_past ss _ _ _ c.loop-rest.rest c.width-rest.ensures h low in
    record {
      within = p.0 i.within;
      bits_are = bits_past ss _ _ _ _ c.args.at (bits ss) c.width-rest.ensures h low i.bits_are;
      width_is = omega (arith, i.width_is, p.1, low);
    }

pub after-requires-clause-segment : goal.after-requires-clause-segment
after-requires-clause-segment c =
    let a = c.segments-segments.ensures in
    let h : c.loop-rest.index < length c.segments-segments.result.now = width_there c.segments-segments.result.now c.loop-rest.index (omega arith) in
    segment_at c.segments-segments.result.now c.loop-rest.index _ (subst AreSegments (sym a.value) a.form.segments) h

pub returns-clause-bits : goal.returns-clause-bits
returns-clause-bits c =
    let h : c.loop-rest.index < length c.segments-segments.result.now = width_there c.segments-segments.result.now c.loop-rest.index (omega arith) in
    bits_rest c.segments-segments.result.now _ _ c.after.result _ c.args.at (bits c.args.self.now) h c.after.ensures.bits c.after.ensures.width
    (c.loop-rest.invariant.bits_are ∙ ap (λ ss. drop c.args.at (bits ss)) c.segments-segments.ensures.value)
