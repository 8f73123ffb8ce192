use Rattle.std.proofs.Common.{◌≡◌, arith, refl}
use Rattle.ep_bit_laws.specs.Edges.{first_at}
use Rattle.ep_bits.proofs.Machine.{first_step, found_below, found_last}
use Rattle.ep_bits.proofs.edges.first_at.Goals as goal

pub loop-k-init : goal.loop-k-init
unfolding first_at
loop-k-init c = refl

pub with_bit-found-requires-clause-found : goal.with_bit-found-requires-clause-found
with_bit-found-requires-clause-found c =
    found_below c.args.zeros c.args.ones c.args.from c.loop-k.k c.power.result c.loop-k.found c.loop-k.invariant
    c.power.ensures

pub loop-k-preserved : goal.loop-k-preserved
loop-k-preserved c =
    first_step c.args.zeros c.args.ones c.args.from c.loop-k.k c.power.result c.low.result c.bit.result
    c.bit-in-loop-k.result c.bit-in-loop-k-2.result c.loop-k.found c.with_bit-found.result
    c.with_bit-found.ensures c.bit.ensures c.bit-in-loop-k.ensures c.bit-in-loop-k-2.ensures c.power.ensures
    c.low.ensures.value c.loop-k.invariant

pub returns-clause-below : goal.returns-clause-below
returns-clause-below c =
    let t = c.loop-k-test.false in let e = c.loop-k.auto.k-end in
    let f : c.loop-k.k ≡ 64 = omega arith in
    found_last c.args.zeros c.args.ones c.args.from c.loop-k.k c.loop-k.found c.loop-k.invariant f
