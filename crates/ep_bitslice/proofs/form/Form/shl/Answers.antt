use Rattle.std.proofs.Common.{◌≡◌, ◌*◌, ◌%◌, ◌^◌, length, refl, sym, ap, ◌∙◌, subst, arith}
use Rattle.ep_bitslice.specs.Bits.{zeros, shifted_left}
use Rattle.ep_bitslice.specs.Segments.{TooMany, bits, number}
use Rattle.ep_bitslice.proofs.Appending.{length-bits}
use Rattle.ep_bitslice.proofs.Numbers.{number-bits}
use Rattle.ep_bitslice.proofs.Operations.{number-shifted_left, length-zeros}
use Rattle.ep_bitslice.proofs.Parts.{number_is, some_result, no_result, no_result_with, after_nothing, too_many_after}
use Rattle.ep_bitslice.proofs.Parts.{shifted_up_bits, width_of_bits}
use Rattle.ep_bitslice.proofs.Parts.{width-shifted_left}
use Rattle.ep_bitslice.proofs.form.Form.shl.Goals as goal

pub returns-then-not-append_zeros-clause-value : goal.returns-then-not-append_zeros-clause-value
returns-then-not-append_zeros-clause-value c =
    no_result_with (zeros c.args.k) _ (shifted_left c.args.k (bits c.args.self.now))
    (too_many_after c.empty-raised.result (zeros c.args.k) c.empty-raised.ensures.value (c.append_zeros.ensures.full c.if-not-append_zeros.true)) refl

pub append-requires-clause-short : goal.append-requires-clause-short
append-requires-clause-short c =
    let z = after_nothing c.empty-raised.result c.append_zeros.new.self (zeros c.args.k) c.empty-raised.ensures.value (c.append_zeros.ensures.appended c.if-not-append_zeros.false) in
    omega (arith, width_of_bits c.append_zeros.new.self (zeros c.args.k) z, length-zeros c.args.k, c.width-width.ensures.value, c.width-width.ensures.within, c.requires)

pub returns-then-not-append-clause-value : goal.returns-then-not-append-clause-value
returns-then-not-append-clause-value c =
    let z = after_nothing c.empty-raised.result c.append_zeros.new.self (zeros c.args.k) c.empty-raised.ensures.value (c.append_zeros.ensures.appended c.if-not-append_zeros.false) in
    no_result (shifted_left c.args.k (bits c.args.self.now))
    (subst TooMany (shifted_up_bits c.args.self.now c.append_zeros.new.self c.args.k c.width-width.result z c.width-width.ensures.value) (c.append.ensures.full c.if-not-append.true))

whole : (c : goal.Else-not-append) → bits c.append.new.self ≡ shifted_left c.args.k (bits c.args.self.now)
whole c =
    let z = after_nothing c.empty-raised.result c.append_zeros.new.self (zeros c.args.k) c.empty-raised.ensures.value (c.append_zeros.ensures.appended c.if-not-append_zeros.false) in
    (c.append.ensures.appended c.if-not-append.false).bits_are ∙ shifted_up_bits c.args.self.now c.append_zeros.new.self c.args.k c.width-width.result z c.width-width.ensures.value

pub returns-clause-value : goal.returns-clause-value
returns-clause-value c = some_result (shifted_left c.args.k (bits c.args.self.now)) c.append.new.self (c.append.ensures.appended c.if-not-append.false).form (whole c)

pub returns-clause-number : goal.returns-clause-number
returns-clause-number c = λ n.
    number_is n c.append.new.self (shifted_left c.args.k (bits c.args.self.now)) (c.append.ensures.appended c.if-not-append.false).form (whole c)
    ∙ number-shifted_left n c.args.k (bits c.args.self.now) (omega (arith, c.requires, length-bits c.args.self.now))
    ∙ ap (λ i. i * 2 ^ c.args.k % 2 ^ length (bits c.args.self.now)) (sym (number-bits n c.args.self.now c.width-width.ensures.form.segments))
    ∙ ap (λ i. number n c.args.self.now * 2 ^ c.args.k % 2 ^ i) (length-bits c.args.self.now)

pub returns-clause-bits : goal.returns-clause-bits
returns-clause-bits c = whole c

pub returns-clause-width : goal.returns-clause-width
returns-clause-width c = width-shifted_left c.append.new.self c.args.self.now c.args.k (omega (arith, c.requires)) (whole c)
