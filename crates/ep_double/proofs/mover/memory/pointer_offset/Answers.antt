use Rattle.std.proofs.Common.{arith, ap, ◌∙◌}
use Rattle.std.specs.Int.{w128}
use Rattle.std.proofs.lemmas.Int.{to_z-of_z}
use Rattle.ep_int.specs.declared.types.IntType.TheVariants.{U32}
use Rattle.ep_int.specs.Arith.{is_in_range}
use Rattle.ep_int.specs.Types.{residue}
use Rattle.ep_double.proofs.Offsets.{units_outside, units_past, units_in}
use Rattle.ep_double.proofs.mover.memory.pointer_offset.Goals as goal

pub returns-then-not-is_number_of-clause-value : goal.returns-then-not-is_number_of-clause-value
returns-then-not-is_number_of-clause-value c =
    units_outside c.args.count c.is_number_of.result
    (c.is_number_of.ensures ∙ ap (is_in_range U32) (to_z-of_z w128 c.args.count c.ranges.count)) c.args.size
    c.args.unit c.if-not-is_number_of.true

pub returns-then-q-size-clause-value : goal.returns-then-q-size-clause-value
returns-then-q-size-clause-value c =
    units_past c.args.count c.is_number_of.result
    (c.is_number_of.ensures ∙ ap (is_in_range U32) (to_z-of_z w128 c.args.count c.ranges.count)) c.args.size
    c.args.unit c.if-not-is_number_of.false c.word_of.result
    (c.word_of.ensures ∙ ap (residue 4294967296) (to_z-of_z w128 c.args.count c.ranges.count))
    c.bytes_of_units-q.result c.bytes_of_units-q.ensures.value (omega arith)

pub returns-clause-value : goal.returns-clause-value
returns-clause-value c =
    units_in c.args.count c.is_number_of.result
    (c.is_number_of.ensures ∙ ap (is_in_range U32) (to_z-of_z w128 c.args.count c.ranges.count)) c.args.size
    c.args.unit c.if-not-is_number_of.false c.word_of.result
    (c.word_of.ensures ∙ ap (residue 4294967296) (to_z-of_z w128 c.args.count c.ranges.count))
    c.bytes_of_units-q.result c.bytes_of_units-q.ensures.value (omega arith)
