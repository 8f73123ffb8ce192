use Rattle.std.proofs.Common.{◌≡◌, ◌-◌, ◌/◌, ◌%◌, ◌^◌, sym, ap, ◌∙◌, arith}
use Rattle.ep_bitslice.specs.Bits.{part_of}
use Rattle.ep_bitslice.specs.Segments.{bits, width}
use Rattle.ep_bitslice.proofs.Appending.{length-bits}
use Rattle.ep_bitslice.proofs.Numbers.{number-bits}
use Rattle.ep_bitslice.proofs.Operations.{number-part_of}
use Rattle.ep_bitslice.proofs.Parts.{number_is, after_nothing, too_many_after, part_fits, normal_is}
use Rattle.ep_bitslice.proofs.Parts.{width-part_of}
use Rattle.ep_bitslice.proofs.form.Form.slice.Goals as goal

pub append-fits-requires-clause-short : goal.append-fits-requires-clause-short
append-fits-requires-clause-short c = omega (arith, ap width c.empty-part.ensures.value, c.width-width.ensures.form.short, c.requires.within)

pub prove-unreachable-requires-2 : goal.prove-unreachable-requires-2
prove-unreachable-requires-2 c =
    part_fits c.args.self.now c.args.from c.args.to c.width-width.ensures.form
    (too_many_after c.empty-part.result _ c.empty-part.ensures.value (c.append-fits.ensures.full c.if-prove-2.true))

whole : (c : goal.Else-prove-2) → bits c.append-fits.new.self ≡ part_of c.args.from c.args.to (bits c.args.self.now)
whole c =
    after_nothing c.empty-part.result c.append-fits.new.self (part_of c.args.from c.args.to (bits c.args.self.now)) c.empty-part.ensures.value (c.append-fits.ensures.appended c.if-prove-2.false)

pub returns-clause-value : goal.returns-clause-value
returns-clause-value c = normal_is c.append-fits.new.self (part_of c.args.from c.args.to (bits c.args.self.now)) (c.append-fits.ensures.appended c.if-prove-2.false).form (whole c)

pub returns-clause-number : goal.returns-clause-number
returns-clause-number c = λ n.
    number_is n c.append-fits.new.self (part_of c.args.from c.args.to (bits c.args.self.now)) (c.append-fits.ensures.appended c.if-prove-2.false).form (whole c)
    ∙ number-part_of n c.args.from c.args.to (bits c.args.self.now) (omega (arith, c.requires.some)) (omega (arith, c.requires.within, length-bits c.args.self.now))
    ∙ ap (λ i. i / 2 ^ c.args.from % 2 ^ (c.args.to - c.args.from)) (sym (number-bits n c.args.self.now c.width-width.ensures.form.segments))

pub returns-clause-bits : goal.returns-clause-bits
returns-clause-bits c = whole c

pub returns-clause-width : goal.returns-clause-width
returns-clause-width c = width-part_of c.append-fits.new.self c.args.self.now c.args.from c.args.to (omega (arith, c.requires.some)) c.requires.within (whole c)
