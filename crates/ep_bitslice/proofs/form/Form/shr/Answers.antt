use Rattle.std.proofs.Common.{◌≡◌, ◌-◌, ◌/◌, ◌^◌, ◌++◌, length, sym, ap, ◌∙◌, subst, arith}
use Rattle.ep_bitslice.specs.Bits.{zeros, part_of, shifted_right}
use Rattle.ep_bitslice.specs.Segments.{TooMany, bits}
use Rattle.ep_bitslice.proofs.Appending.{length-bits}
use Rattle.ep_bitslice.proofs.Numbers.{number-bits}
use Rattle.ep_bitslice.proofs.Operations.{number-shifted_right}
use Rattle.ep_bitslice.proofs.Parts.{part_length, part_end, number_is, some_result, no_result, no_result_with}
use Rattle.ep_bitslice.proofs.Parts.{after_nothing, too_many_after, shifted_down_bits, width_of_bits}
use Rattle.ep_bitslice.proofs.Parts.{width-shifted_right}
use Rattle.ep_bitslice.proofs.form.Form.shr.Goals as goal

pub returns-then-not-append-clause-value : goal.returns-then-not-append-clause-value
returns-then-not-append-clause-value c =
    no_result_with (part_of c.args.k c.width-width.result (bits c.args.self.now)) (zeros c.args.k) (shifted_right c.args.k (bits c.args.self.now))
    (too_many_after c.empty-lowered.result _ c.empty-lowered.ensures.value (c.append.ensures.full c.if-not-append.true))
    (ap (λ xs. xs ++ zeros c.args.k) (part_end c.args.k c.width-width.result (bits c.args.self.now) (c.width-width.ensures.value ∙ sym (length-bits c.args.self.now))))

pub append_zeros-requires-clause-short : goal.append_zeros-requires-clause-short
append_zeros-requires-clause-short c =
    let a = after_nothing c.empty-lowered.result c.append.new.self (part_of c.args.k c.width-width.result (bits c.args.self.now)) c.empty-lowered.ensures.value (c.append.ensures.appended c.if-not-append.false) in
    let l : length (part_of c.args.k c.width-width.result (bits c.args.self.now)) ≡ c.width-width.result - c.args.k =
    part_length c.args.k c.width-width.result (bits c.args.self.now) (omega (arith, c.requires, c.width-width.ensures.value)) (omega (arith, length-bits c.args.self.now, c.width-width.ensures.value)) in
    omega (arith, width_of_bits c.append.new.self (part_of c.args.k c.width-width.result (bits c.args.self.now)) a, l, c.requires, c.width-width.ensures.value, c.width-width.ensures.within)

pub returns-then-not-append_zeros-clause-value : goal.returns-then-not-append_zeros-clause-value
returns-then-not-append_zeros-clause-value c =
    let a = after_nothing c.empty-lowered.result c.append.new.self (part_of c.args.k c.width-width.result (bits c.args.self.now)) c.empty-lowered.ensures.value (c.append.ensures.appended c.if-not-append.false) in
    no_result (shifted_right c.args.k (bits c.args.self.now))
    (subst TooMany (shifted_down_bits c.args.self.now c.append.new.self c.args.k c.width-width.result a c.width-width.ensures.value) (c.append_zeros.ensures.full c.if-not-append_zeros.true))

whole : (c : goal.Else-not-append_zeros) → bits c.append_zeros.new.self ≡ shifted_right c.args.k (bits c.args.self.now)
whole c =
    let a = after_nothing c.empty-lowered.result c.append.new.self (part_of c.args.k c.width-width.result (bits c.args.self.now)) c.empty-lowered.ensures.value (c.append.ensures.appended c.if-not-append.false) in
    (c.append_zeros.ensures.appended c.if-not-append_zeros.false).bits_are ∙ shifted_down_bits c.args.self.now c.append.new.self c.args.k c.width-width.result a c.width-width.ensures.value

pub returns-clause-value : goal.returns-clause-value
returns-clause-value c = some_result (shifted_right c.args.k (bits c.args.self.now)) c.append_zeros.new.self (c.append_zeros.ensures.appended c.if-not-append_zeros.false).form (whole c)

pub returns-clause-number : goal.returns-clause-number
returns-clause-number c = λ n.
    number_is n c.append_zeros.new.self (shifted_right c.args.k (bits c.args.self.now)) (c.append_zeros.ensures.appended c.if-not-append_zeros.false).form (whole c)
    ∙ number-shifted_right n c.args.k (bits c.args.self.now) (omega (arith, c.requires, length-bits c.args.self.now))
    ∙ ap (λ i. i / 2 ^ c.args.k) (sym (number-bits n c.args.self.now c.width-width.ensures.form.segments))

pub returns-clause-bits : goal.returns-clause-bits
returns-clause-bits c = whole c

pub returns-clause-width : goal.returns-clause-width
returns-clause-width c = width-shifted_right c.append_zeros.new.self c.args.self.now c.args.k (omega (arith, c.requires)) (whole c)
