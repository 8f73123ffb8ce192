use Rattle.std.proofs.Common.{◌≡◌, ℕ, ◌+◌, ◌≤◌, ◌++◌, nat_le, true, refl, sym, ap, ◌∙◌, subst, arith}
use Rattle.ep_bitslice.specs.Bits.{part_of}
use Rattle.ep_bitslice.specs.Segments.{TooMany, bits, width}
use Rattle.ep_bitslice.proofs.Appending.{length-bits}
use Rattle.ep_bitslice.proofs.Numbers.{number-append, number-bits}
use Rattle.ep_bitslice.proofs.Parts.{part_whole, number_is, some_result, no_result, where_true, either_way}
use Rattle.ep_bitslice.proofs.Parts.{width-concat}
use Rattle.ep_bitslice.proofs.form.Form.concat.Goals as goal

fits : (m n : ℕ) → m + n ≤ 64 → nat_le (m + n) 64 ≡ true
fits m n h = search arith

whole : (c : goal.Then-append) → bits c.append.new.self ≡ bits c.args.low.now ++ bits c.args.high.now
whole c =
    (c.append.ensures.appended c.if-append.true).bits_are
    ∙ ap (λ ss. bits ss ++ part_of 0 c.width-3.result (bits c.args.high.now)) c.copy-all.ensures.value
    ∙ ap (λ xs. bits c.args.low.now ++ xs) (part_whole c.width-3.result (bits c.args.high.now) (c.width-3.ensures.value ∙ sym (length-bits c.args.high.now)))

pub returns-then-append-clause-value : goal.returns-then-append-clause-value
returns-then-append-clause-value c =
    where_true _ _ _ (fits (width c.args.low.now) (width c.args.high.now) (omega arith))
    (some_result (bits c.args.low.now ++ bits c.args.high.now) c.append.new.self (c.append.ensures.appended c.if-append.true).form (whole c))

pub returns-then-append-clause-number : goal.returns-then-append-clause-number
returns-then-append-clause-number c = λ n.
    number_is n c.append.new.self (bits c.args.low.now ++ bits c.args.high.now) (c.append.ensures.appended c.if-append.true).form (whole c)
    ∙ number-append n (bits c.args.low.now) (bits c.args.high.now)
    ∙ rw (length-bits c.args.low.now, ← number-bits n c.args.low.now c.width.ensures.form.segments, ← number-bits n c.args.high.now c.width-2.ensures.form.segments) refl

pub returns-else-append-clause-value : goal.returns-else-append-clause-value
returns-else-append-clause-value c =
    either_way _ _ (no_result (bits c.args.low.now ++ bits c.args.high.now)
    (subst TooMany
    (ap (λ ss. bits ss ++ part_of 0 c.width-3.result (bits c.args.high.now)) c.copy-all.ensures.value
    ∙ ap (λ xs. bits c.args.low.now ++ xs) (part_whole c.width-3.result (bits c.args.high.now) (c.width-3.ensures.value ∙ sym (length-bits c.args.high.now))))
    (c.append.ensures.full c.if-append.false)))

pub returns-then-append-clause-bits : goal.returns-then-append-clause-bits
returns-then-append-clause-bits c = whole c

pub returns-then-append-clause-width : goal.returns-then-append-clause-width
returns-then-append-clause-width c = width-concat c.append.new.self c.args.low.now c.args.high.now (whole c)
