use Rattle.std.proofs.Common.{◌∙◌, arith}
use Rattle.ep_operands.proofs.TypeLemmas.{by_root, no_row}
use Rattle.ep_operands.proofs.types.type_of.Goals as goal

pub returns-then-number-type_count : goal.returns-then-number-type_count
returns-then-number-type_count c =
    c.void_type.ensures ∙ no_row c.args.types.now c.args.number (omega (arith, c.type_count.ensures, c.if-number-type_count.true))

pub returns : goal.returns
returns c =
    by_root c.args.types.now c.args.number c.root_of-root.result.row c.root_of-root.result.stars c.base_of.result
    c.root_of-root.ensures.chain c.root_of-root.ensures.root c.root_of-root.ensures.few c.base_of.ensures
