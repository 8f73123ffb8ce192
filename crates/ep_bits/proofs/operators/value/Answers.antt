use Rattle.std.proofs.Common.{sym, ◌∙◌}
use Rattle.ep_bit_domain.proofs.Exact.{left_number, right_number}
use Rattle.ep_bits.proofs.operators.value.Goals as goal

pub results-requires-clause-left : goal.results-requires-clause-left
results-requires-clause-left c = left_number c.args.t c.args.x.now c.in_ok-left.left
    (sym c.in_type.ensures ∙ c.in_ok-left.was)

pub results-requires-clause-right : goal.results-requires-clause-right
results-requires-clause-right c = right_number c.args.op c.args.t c.args.y.now c.in_ok-right.right
    (sym c.right_operand.ensures ∙ c.in_ok-right.was)
