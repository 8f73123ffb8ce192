use Rattle.std.proofs.Common.{subst, sym, arith}
use Rattle.ep_bitslice.specs.Segments.{AreSegments}
use Rattle.ep_bitslice.proofs.Walks.{segment_at, width_step}
use Rattle.ep_bitslice.proofs.form.Form.width.Goals as goal

pub width-width-requires : goal.width-width-requires
width-width-requires c =
    let a = c.segments-s-items.ensures in
    segment_at c.segments-s-items.result.now _ _ (subst AreSegments (sym a.value) a.form.segments) c.loop-s-test.true

pub overflow_add-width : goal.overflow_add-width
overflow_add-width c =
    let a = c.segments-s-items.ensures in
    omega (arith, a.form.short, width_step c.segments-s-items.result.now _ _ _ c.loop-s.width _ c.width-width.ensures c.loop-s-test.true c.loop-s.invariant)

pub loop-s-preserved : goal.loop-s-preserved
loop-s-preserved c = width_step c.segments-s-items.result.now _ _ _ c.loop-s.width _ c.width-width.ensures c.loop-s-test.true c.loop-s.invariant
