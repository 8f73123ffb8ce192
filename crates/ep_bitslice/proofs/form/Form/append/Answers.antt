use Rattle.std.proofs.Common.{◌≡◌, ℕ, ◌+◌, ◌-◌, ◌≤◌, ◌++◌, List, length, length-append, sym, ap, ◌∙◌, arith}
use Rattle.ep_bitslice.proofs.NormalForm.{append_nothing}
use Rattle.ep_bitslice.specs.declared.segment.Segment.{Segment}
use Rattle.ep_bitslice.specs.Bits.{Bit, part_of}
use Rattle.ep_bitslice.specs.Segments.{bits, width, segment_bits}
use Rattle.ep_bitslice.proofs.Appending.{length-bits}
use Rattle.ep_bitslice.proofs.Parts.{part_none, part_length, piece_is, part_step, part_full}
use Rattle.ep_bitslice.proofs.form.Form.append.Goals as goal

pub loop-at-init : goal.loop-at-init
loop-at-init c = record {
  low = omega arith;
  form = c.requires.form;
  high = c.requires.order;
  bits_are = sym (ap (λ xs. bits c.args.self.now ++ xs) (part_none c.args.from (bits c.args.f.now)) ∙ append_nothing (bits c.args.self.now));
}

width_so_far : (ss old : List Segment) (from at : ℕ) (bs : List Bit) → bits ss ≡ bits old ++ part_of from at bs → from ≤ at → at ≤ length bs → width ss ≡ width old + (at - from)
width_so_far ss old from at bs e p q =
    omega (arith, length-bits ss, length-bits old, ap length e, length-append (bits old) (part_of from at bs), part_length from at bs p q)

pub try_push-requires-clause-short : goal.try_push-requires-clause-short
try_push-requires-clause-short c =
    let i = c.loop-at.invariant in
    let w = width_so_far c.loop-at.self c.args.self.now c.args.from c.loop-at.at (bits c.args.f.now) i.bits_are i.low (omega (arith, length-bits c.args.f.now, c.requires.within)) in
    omega (arith, w, c.first.ensures.width, c.min-count.ensures, c.requires.short)

pub returns-then-not-try_push-clause-full : goal.returns-then-not-try_push-clause-full
returns-then-not-try_push-clause-full c = λ _.
    let i = c.loop-at.invariant in
    let p = piece_is c.part_from-part.result c.first.result _ (bits c.args.f.now) c.min-count.result c.loop-at.at c.first.ensures.bits (omega (arith, c.min-count.ensures, c.width.ensures)) c.part_from-part.ensures.bits in
    part_full c.loop-at.self (segment_bits c.first.result) (bits c.args.f.now) (bits c.args.self.now) c.args.from c.loop-at.at c.args.to c.min-count.result i.bits_are p i.low
    (omega (arith, c.min-count.ensures)) (c.try_push.ensures.full c.if-not-try_push.true)

pub loop-at-preserved : goal.loop-at-preserved
loop-at-preserved c =
    let i = c.loop-at.invariant in
    let p = piece_is c.part_from-part.result c.first.result _ (bits c.args.f.now) c.min-count.result c.loop-at.at c.first.ensures.bits (omega (arith, c.min-count.ensures, c.width.ensures)) c.part_from-part.ensures.bits in
    let a = c.try_push.ensures.appended c.if-not-try_push.false in
    record {
      low = omega (arith, i.low);
      form = a.form;
      high = omega (arith, c.min-count.ensures);
      bits_are = part_step c.loop-at.self c.try_push.new.self (segment_bits c.first.result) (bits c.args.f.now) (bits c.args.self.now) c.args.from c.loop-at.at c.min-count.result i.bits_are p i.low a.bits_are;
    }

pub returns-clause-appended : goal.returns-clause-appended
returns-clause-appended c = λ _.
    let i = c.loop-at.invariant in
    let e : c.loop-at.at ≡ c.args.to = omega arith in
    record {
      form = i.form;
      bits_are = i.bits_are ∙ ap (λ n. bits c.args.self.now ++ part_of c.args.from n (bits c.args.f.now)) e;
    }
