use Rattle.std.proofs.Common.{sym, ◌∙◌, ap, subst, arith}
use Rattle.ep_reads.specs.Bytes.{order_on}
use Rattle.ep_scalar_reads.specs.Parts.{HaveByteForms}
use Rattle.ep_state_synthesis.proofs.Bytes.{byte_in, byte_at_place, bytes_step, bytes_end, eights}
use Rattle.ep_state_synthesis.proofs.reading.bytes_there.Goals as goal

pub loop-i-preserved : goal.loop-i-preserved
loop-i-preserved g c =
    let order = c.order_on-order.ensures ∙ ap (order_on c.args.p.side) c.orders.ensures in
    let is = byte_at_place g.N.Num.ops c.args.state.now c.args.p c.loop-i.i c.from.result c.from-in-loop-i.result
    c.place.result c.order_on-order.result c.byte_there.result order c.from.ensures c.place.ensures.value
    c.from-in-loop-i.ensures c.byte_there.ensures.value in (
      bytes_step (byte_in g.N.Num.ops c.args.state.now c.args.p) c.args.p.bytes c.loop-i.out.items
          c.push.new.out.items c.byte_there.result c.loop-i.i c.loop-i-test.true is c.in_ok-push.ensures
          c.loop-i.invariant.0,
      subst HaveByteForms (sym c.in_ok-push.ensures) (eights c.loop-i.out.items c.byte_there.result c.loop-i.invariant.1
          c.byte_there.ensures.form),
    )

pub returns-clause-value : goal.returns-clause-value
returns-clause-value g c =
    bytes_end (byte_in g.N.Num.ops c.args.state.now c.args.p) c.args.p.bytes c.loop-i.out.items c.loop-i.i
    (omega (arith, c.loop-i-test.false)) c.loop-i.invariant.0
