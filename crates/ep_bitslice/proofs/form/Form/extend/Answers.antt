use Rattle.std.proofs.Common.{◌≡◌, ℕ, ◌-◌, ◌++◌, List, sym, ap, ◌∙◌, subst}
use Rattle.ep_bitslice.specs.declared.segment.Segment.{Segment}
use Rattle.ep_bitslice.specs.Bits.{zeros, extended}
use Rattle.ep_bitslice.specs.Segments.{TooMany, bits, width}
use Rattle.ep_bitslice.proofs.Appending.{length-bits}
use Rattle.ep_bitslice.proofs.Numbers.{number-bits}
use Rattle.ep_bitslice.proofs.Operations.{number-extended}
use Rattle.ep_bitslice.proofs.Parts.{number_is, some_result, no_result}
use Rattle.ep_bitslice.proofs.Parts.{width-extended}
use Rattle.ep_bitslice.proofs.form.Form.extend.Goals as goal

sum : (ss new : List Segment) (k m : ℕ) → new ≡ ss → m ≡ width ss → bits new ++ zeros (k - m) ≡ extended k (bits ss)
sum ss new k m e f = ap (λ xs. bits xs ++ zeros (k - m)) e ∙ ap (λ j. bits ss ++ zeros (k - j)) (f ∙ sym (length-bits ss))

whole : (c : goal.Then-append_zeros) → bits c.append_zeros.new.self ≡ extended c.args.bits (bits c.args.self.now)
whole c = (c.append_zeros.ensures.appended c.if-append_zeros.true).bits_are ∙ sum c.args.self.now c.copy-all.result c.args.bits c.width.result c.copy-all.ensures.value c.width.ensures.value

pub returns-then-append_zeros-clause-value : goal.returns-then-append_zeros-clause-value
returns-then-append_zeros-clause-value c =
    some_result (extended c.args.bits (bits c.args.self.now)) c.append_zeros.new.self (c.append_zeros.ensures.appended c.if-append_zeros.true).form (whole c)

pub returns-then-append_zeros-clause-number : goal.returns-then-append_zeros-clause-number
returns-then-append_zeros-clause-number c = λ n.
    number_is n c.append_zeros.new.self (extended c.args.bits (bits c.args.self.now)) (c.append_zeros.ensures.appended c.if-append_zeros.true).form (whole c)
    ∙ number-extended n c.args.bits (bits c.args.self.now) ∙ sym (number-bits n c.args.self.now c.width.ensures.form.segments)

pub returns-else-append_zeros-clause-value : goal.returns-else-append_zeros-clause-value
returns-else-append_zeros-clause-value c =
    no_result (extended c.args.bits (bits c.args.self.now))
    (subst TooMany (sum c.args.self.now c.copy-all.result c.args.bits c.width.result c.copy-all.ensures.value c.width.ensures.value) (c.append_zeros.ensures.full c.if-append_zeros.false))

pub returns-then-append_zeros-clause-bits : goal.returns-then-append_zeros-clause-bits
returns-then-append_zeros-clause-bits c = whole c

pub returns-then-append_zeros-clause-width : goal.returns-then-append_zeros-clause-width
returns-then-append_zeros-clause-width c = width-extended c.append_zeros.new.self c.args.self.now c.args.bits c.requires.low (whole c)
