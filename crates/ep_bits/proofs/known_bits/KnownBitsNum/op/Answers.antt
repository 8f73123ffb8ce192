use Rattle.std.proofs.Common.{sym, subst}
use Rattle.ep_bit_domain.specs.Exact.{IsExactly, IsResult}
use Rattle.ep_bit_domain.proofs.Exact.{value_exact}
use Rattle.ep_bits.proofs.Machine.{range_given}
use Rattle.ep_bits.proofs.known_bits.KnownBitsNum.op.Goals as goal

pub range_fault-shown-requires-clause-left : goal.range_fault-shown-requires-clause-left
range_fault-shown-requires-clause-left c = range_given c.range_of.result c.args.x.now c.range_of.ensures

pub range_fault-shown-requires-clause-right : goal.range_fault-shown-requires-clause-right
range_fault-shown-requires-clause-right c = range_given c.range_of-2.result c.args.y.now c.range_of-2.ensures

pub returns-clause-exact : goal.returns-clause-exact
returns-clause-exact c = λ n. let a = c.args in subst (IsExactly (IsResult a.op a.t a.x.now a.y.now))
    (sym c.value.ensures) (value_exact a.op a.t a.x.now a.y.now n)
