use Rattle.std.proofs.Common.{arith, sym}
use Rattle.ep_operands.proofs.TypeLemmas.{absent_size}
use Rattle.ep_operands.proofs.types.array_size.Goals as goal

pub returns-else-number-type_count : goal.returns-else-number-type_count
returns-else-number-type_count c =
    sym (absent_size c.args.types.now c.args.number (omega (arith, c.type_count.ensures, c.if-number-type_count.false)))
