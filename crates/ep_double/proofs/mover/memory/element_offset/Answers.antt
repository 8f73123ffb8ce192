use Rattle.std.proofs.Common.{arith, ap, ◌∙◌}
use Rattle.std.specs.Int.{w128}
use Rattle.std.proofs.lemmas.Int.{to_z-of_z}
use Rattle.ep_int.specs.declared.types.IntType.TheVariants.{U32}
use Rattle.ep_int.specs.Arith.{is_in_range}
use Rattle.ep_int.specs.Types.{residue}
use Rattle.ep_double.proofs.Offsets.{index_outside, index_past, index_in}
use Rattle.ep_double.proofs.mover.memory.element_offset.Goals as goal

pub returns-then-not-is_number_of-clause-value : goal.returns-then-not-is_number_of-clause-value
returns-then-not-is_number_of-clause-value c =
    index_outside c.args.index c.is_number_of.result
    (c.is_number_of.ensures ∙ ap (is_in_range U32) (to_z-of_z w128 c.args.index c.ranges.index)) c.args.bound
    c.args.unit c.if-not-is_number_of.true

pub returns-then-count-bound-clause-value : goal.returns-then-count-bound-clause-value
returns-then-count-bound-clause-value c =
    index_past c.args.index c.is_number_of.result
    (c.is_number_of.ensures ∙ ap (is_in_range U32) (to_z-of_z w128 c.args.index c.ranges.index)) c.args.bound
    c.args.unit c.if-not-is_number_of.false c.word_of-count.result
    (c.word_of-count.ensures ∙ ap (residue 4294967296) (to_z-of_z w128 c.args.index c.ranges.index)) (omega arith)

pub returns-clause-value : goal.returns-clause-value
returns-clause-value c =
    index_in c.args.index c.is_number_of.result
    (c.is_number_of.ensures ∙ ap (is_in_range U32) (to_z-of_z w128 c.args.index c.ranges.index)) c.args.bound
    c.args.unit c.if-not-is_number_of.false c.word_of-count.result
    (c.word_of-count.ensures ∙ ap (residue 4294967296) (to_z-of_z w128 c.args.index c.ranges.index)) (omega arith)
    c.bytes_of_units.result c.bytes_of_units.ensures.value
