use Rattle.std.proofs.Common.{◌≡◌, ℕ, ◌+◌, ◌-◌, ◌++◌, true, false, List, [], length, drop, length-drop, refl, sym, ap}
use Rattle.std.proofs.Common.{◌∙◌, arith}
use Rattle.ep_bitslice.specs.declared.segment.Segment.{Segment}
use Rattle.ep_bitslice.specs.Bits.{Bit, are_disjoint, either_of}
use Rattle.ep_bitslice.specs.Segments.{bits, width, segment_bits, segment_width}
use Rattle.ep_bitslice.proofs.Appending.{length-bits}
use Rattle.ep_bitslice.proofs.Numbers.{number-bits}
use Rattle.ep_bitslice.proofs.Operations.{number-either_of, or-number}
use Rattle.ep_bitslice.proofs.Parts.{number_is, some_result, no_result, where_true, where_false, either_way}
use Rattle.ep_bitslice.proofs.Parts.{drop-whole, ahead_full, ahead_step, ahead_end, ahead_width, length-either}
use Rattle.ep_bitslice.proofs.Parts.{either_step, disjoint_step, not_as_wide}
use Rattle.ep_bitslice.proofs.Parts.{width-either}
use Rattle.ep_bitslice.proofs.form.Form.disjoint_or.Goals as goal

pub returns-then-width-clause-value : goal.returns-then-width-clause-value
returns-then-width-clause-value c =
    where_false _ _ (not_as_wide (bits c.args.a.now) (bits c.args.b.now)
    (λ e. c.if-width.true (c.width-width.ensures.value ∙ sym (length-bits c.args.a.now) ∙ e ∙ length-bits c.args.b.now ∙ sym c.width.ensures.value)))

-- both lists of bits are as long
wide : (m n : ℕ) (xs ys : List Segment) → m ≡ width xs → n ≡ width ys → m ≡ n → length (bits xs) ≡ length (bits ys)
wide m n xs ys e f h = length-bits xs ∙ sym e ∙ h ∙ f ∙ sym (length-bits ys)

left_width : (xs ys : List Bit) (at : ℕ) → length xs ≡ length ys → length (either_of (drop at xs) (drop at ys)) ≡ length xs - at
left_width xs ys at h =
    length-either (drop at xs) (drop at ys) (length-drop at xs ∙ ap (λ n. n - at) h ∙ sym (length-drop at ys)) ∙ length-drop at xs

pub try_push-requires-clause-short : goal.try_push-requires-clause-short
try_push-requires-clause-short c =
    let h = wide _ _ c.args.a.now c.args.b.now c.width-width.ensures.value c.width.ensures.value c.if-width.false in
    let i = c.loop-at.invariant in
    let p = c.in_ok-piece.ensures.piece in
    omega (
      arith,
      ahead_width c.loop-at.both _ (either_of (bits c.args.a.now) (bits c.args.b.now)) i.ahead,
      left_width (bits c.args.a.now) (bits c.args.b.now) c.loop-at.at h,
      length-either (bits c.args.a.now) (bits c.args.b.now) h,
      p.low,
      c.part_from.ensures.within,
      length-bits c.args.a.now,
      c.width-width.ensures.value,
      c.width-width.ensures.within,
    )

pub returns-in_err-piece-clause-value : goal.returns-in_err-piece-clause-value
returns-in_err-piece-clause-value c =
    let k = segment_width c.part_from.result in
    let j = segment_width c.part_from-in-loop-at.result in
    let meet : are_disjoint (bits c.args.a.now) (bits c.args.b.now) ≡ false =
    c.loop-at.invariant.apart
    ∙ ap (λ xs. are_disjoint xs (drop c.loop-at.at (bits c.args.b.now))) (sym c.part_from.ensures.bits)
    ∙ ap (λ ys. are_disjoint (segment_bits c.part_from.result ++ drop (c.loop-at.at + k) (bits c.args.a.now)) ys) (sym c.part_from-in-loop-at.ensures.bits)
    ∙ c.in_err-piece.ensures.none (drop (c.loop-at.at + k) (bits c.args.a.now)) (drop (c.loop-at.at + j) (bits c.args.b.now)) in
    c.from_residual.ensures ∙ where_false _ _ meet

pub returns-then-not-try_push-clause-value : goal.returns-then-not-try_push-clause-value
returns-then-not-try_push-clause-value c =
    let s = either_step c.part_from.result c.part_from-in-loop-at.result c.in_ok-piece.piece _ _ (bits c.args.a.now) (bits c.args.b.now) c.loop-at.at c.in_ok-piece.ensures.piece c.part_from.ensures.bits c.part_from-in-loop-at.ensures.bits in
    either_way _ _ (no_result (either_of (bits c.args.a.now) (bits c.args.b.now))
    (ahead_full c.loop-at.both (segment_bits c.in_ok-piece.piece) _ _ (either_of (bits c.args.a.now) (bits c.args.b.now)) c.loop-at.invariant.ahead s (c.try_push.ensures.full c.if-not-try_push.true)))

pub loop-at-preserved : goal.loop-at-preserved
loop-at-preserved c =
    let p = c.in_ok-piece.ensures.piece in
    let s = either_step c.part_from.result c.part_from-in-loop-at.result c.in_ok-piece.piece _ _ (bits c.args.a.now) (bits c.args.b.now) c.loop-at.at p c.part_from.ensures.bits c.part_from-in-loop-at.ensures.bits in
    let d = disjoint_step c.part_from.result c.part_from-in-loop-at.result c.in_ok-piece.piece _ _ (bits c.args.a.now) (bits c.args.b.now) c.loop-at.at p c.part_from.ensures.bits c.part_from-in-loop-at.ensures.bits in
    let a = c.try_push.ensures.appended c.if-not-try_push.false in
    record {
      high = omega (arith, c.width-at.ensures, p.low, c.part_from.ensures.within, c.width-width.ensures.value);
      form = a.form;
      apart = c.loop-at.invariant.apart ∙ d ∙ ap (λ k. are_disjoint (drop (c.loop-at.at + k) (bits c.args.a.now)) (drop (c.loop-at.at + k) (bits c.args.b.now))) (sym c.width-at.ensures);
      ahead = ap (λ k. bits c.try_push.new.self ++ either_of (drop (c.loop-at.at + k) (bits c.args.a.now)) (drop (c.loop-at.at + k) (bits c.args.b.now))) c.width-at.ensures
          ∙ ahead_step c.loop-at.both c.try_push.new.self (segment_bits c.in_ok-piece.piece) _ _ (either_of (bits c.args.a.now) (bits c.args.b.now)) c.loop-at.invariant.ahead s a.bits_are;
    }

nothing_left : (c : goal.After-loop-at) → (drop c.loop-at.at (bits c.args.a.now) ≡ []) × (drop c.loop-at.at (bits c.args.b.now) ≡ [])
nothing_left c =
    let i = c.loop-at.invariant in
    let h = wide _ _ c.args.a.now c.args.b.now c.width-width.ensures.value c.width.ensures.value c.if-width.false in (
      drop-whole (bits c.args.a.now) c.loop-at.at (omega (arith, length-bits c.args.a.now, c.width-width.ensures.value)),
      drop-whole (bits c.args.b.now) c.loop-at.at (omega (arith, h, length-bits c.args.a.now, c.width-width.ensures.value)),
    )

apart : (c : goal.After-loop-at) → are_disjoint (bits c.args.a.now) (bits c.args.b.now) ≡ true
apart c =
    let e = nothing_left c in
    c.loop-at.invariant.apart ∙ ap (λ xs. are_disjoint xs (drop c.loop-at.at (bits c.args.b.now))) e.0 ∙ ap (λ xs. are_disjoint [] xs) e.1

whole : (c : goal.After-loop-at) → bits c.loop-at.both ≡ either_of (bits c.args.a.now) (bits c.args.b.now)
whole c =
    let e = nothing_left c in
    ahead_end c.loop-at.both _ (either_of (bits c.args.a.now) (bits c.args.b.now)) c.loop-at.invariant.ahead (ap (λ xs. either_of xs (drop c.loop-at.at (bits c.args.b.now))) e.0)

pub returns-clause-value : goal.returns-clause-value
returns-clause-value c =
    where_true _ _ _ (apart c) (some_result (either_of (bits c.args.a.now) (bits c.args.b.now)) c.loop-at.both c.loop-at.invariant.form (whole c))

pub returns-clause-number : goal.returns-clause-number
returns-clause-number c = λ n.
    number_is n c.loop-at.both (either_of (bits c.args.a.now) (bits c.args.b.now)) c.loop-at.invariant.form (whole c)
    ∙ or-number n (bits c.args.a.now) (bits c.args.b.now) (apart c)
    ∙ rw (← number-bits n c.args.a.now c.width-width.ensures.form.segments, ← number-bits n c.args.b.now c.width.ensures.form.segments) refl

pub returns-clause-sum : goal.returns-clause-sum
returns-clause-sum c = λ n.
    number_is n c.loop-at.both (either_of (bits c.args.a.now) (bits c.args.b.now)) c.loop-at.invariant.form (whole c)
    ∙ number-either_of n (bits c.args.a.now) (bits c.args.b.now) (apart c)
    ∙ rw (← number-bits n c.args.a.now c.width-width.ensures.form.segments, ← number-bits n c.args.b.now c.width.ensures.form.segments) refl

pub returns-clause-bits : goal.returns-clause-bits
returns-clause-bits c = whole c

pub returns-clause-width : goal.returns-clause-width
returns-clause-width c = width-either c.loop-at.both c.args.a.now c.args.b.now (apart c) (whole c)
