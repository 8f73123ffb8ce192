use Rattle.std.proofs.Common.{◌≡◌, ◌+◌, ◌/◌, ◌^◌, ◌++◌, [], drop, bit_and, length-drop, sym, ap, ◌∙◌, arith}
use Rattle.ep_bitslice.specs.Bits.{masked}
use Rattle.ep_bitslice.specs.Segments.{bits, segment_bits}
use Rattle.ep_bitslice.proofs.Appending.{length-bits}
use Rattle.ep_bitslice.proofs.Numbers.{number-bits}
use Rattle.ep_bitslice.proofs.Operations.{number-masked}
use Rattle.ep_bitslice.proofs.Parts.{number_is, some_result, no_result, drop-whole, ahead_full, ahead_step, ahead_end}
use Rattle.ep_bitslice.proofs.Parts.{ahead_width, length-masked, masked_step}
use Rattle.ep_bitslice.proofs.Parts.{width-masked}
use Rattle.ep_bitslice.proofs.form.Form.mask.Goals as goal

pub try_push-requires-clause-short : goal.try_push-requires-clause-short
try_push-requires-clause-short c =
    let i = c.loop-at.invariant in
    let a = ahead_width c.loop-at.kept (masked (c.args.m / 2 ^ c.loop-at.at) (drop c.loop-at.at (bits c.args.self.now))) (masked c.args.m (bits c.args.self.now)) i.ahead in
    omega (
      arith,
      a,
      length-masked (c.args.m / 2 ^ c.loop-at.at) (drop c.loop-at.at (bits c.args.self.now)),
      length-masked c.args.m (bits c.args.self.now),
      length-drop c.loop-at.at (bits c.args.self.now),
      length-bits c.args.self.now,
      c.kept-piece.ensures.within,
      c.part_from-part.ensures.within,
      c.width-width.ensures.form.short,
    )

pub returns-then-not-try_push-clause-value : goal.returns-then-not-try_push-clause-value
returns-then-not-try_push-clause-value c =
    let s = masked_step c.part_from-part.result c.kept-piece.result _ (bits c.args.self.now) c.args.m c.loop-at.at c.kept-piece.ensures.bits c.kept-piece.ensures.within c.part_from-part.ensures.bits in
    no_result (masked c.args.m (bits c.args.self.now))
    (ahead_full c.loop-at.kept (segment_bits c.kept-piece.result) _ _ (masked c.args.m (bits c.args.self.now)) c.loop-at.invariant.ahead s (c.try_push.ensures.full c.if-not-try_push.true))

pub loop-at-preserved : goal.loop-at-preserved
loop-at-preserved c =
    let s = masked_step c.part_from-part.result c.kept-piece.result _ (bits c.args.self.now) c.args.m c.loop-at.at c.kept-piece.ensures.bits c.kept-piece.ensures.within c.part_from-part.ensures.bits in
    let a = c.try_push.ensures.appended c.if-not-try_push.false in
    record {
      high = omega (arith, c.width-at.ensures, c.kept-piece.ensures.within, c.part_from-part.ensures.within, c.width-width.ensures.value);
      form = a.form;
      ahead = ap (λ k. bits c.try_push.new.self ++ masked (c.args.m / 2 ^ (c.loop-at.at + k)) (drop (c.loop-at.at + k) (bits c.args.self.now))) c.width-at.ensures
          ∙ ahead_step c.loop-at.kept c.try_push.new.self (segment_bits c.kept-piece.result) _ _ (masked c.args.m (bits c.args.self.now)) c.loop-at.invariant.ahead s a.bits_are;
    }

whole : (c : goal.After-loop-at) → bits c.loop-at.kept ≡ masked c.args.m (bits c.args.self.now)
whole c =
    let i = c.loop-at.invariant in
    let e : drop c.loop-at.at (bits c.args.self.now) ≡ [] = drop-whole (bits c.args.self.now) c.loop-at.at (omega (arith, length-bits c.args.self.now, c.width-width.ensures.value)) in
    ahead_end c.loop-at.kept (masked (c.args.m / 2 ^ c.loop-at.at) (drop c.loop-at.at (bits c.args.self.now))) (masked c.args.m (bits c.args.self.now)) i.ahead (ap (masked (c.args.m / 2 ^ c.loop-at.at)) e)

pub returns-clause-value : goal.returns-clause-value
returns-clause-value c = some_result (masked c.args.m (bits c.args.self.now)) c.loop-at.kept c.loop-at.invariant.form (whole c)

pub returns-clause-number : goal.returns-clause-number
returns-clause-number c = λ n.
    number_is n c.loop-at.kept (masked c.args.m (bits c.args.self.now)) c.loop-at.invariant.form (whole c)
    ∙ number-masked n c.args.m (bits c.args.self.now)
    ∙ ap (λ k. bit_and k c.args.m) (sym (number-bits n c.args.self.now c.width-width.ensures.form.segments))

pub returns-clause-bits : goal.returns-clause-bits
returns-clause-bits c = whole c

pub returns-clause-width : goal.returns-clause-width
returns-clause-width c = width-masked c.loop-at.kept c.args.self.now c.args.m (whole c)
