use Rattle.std.proofs.Common.{◌≡◌, ◌<◌, inl, inr, length, arith}
use Rattle.ep_double.proofs.Kept.{not_closed, kept_on}
use Rattle.ep_double.proofs.closed.is_closed.Goals as goal
use Rattle.ep_double.proofs.closed.is_closed.Goals.{then-here-lt-REMEMBERED, else-here-lt-REMEMBERED}

pub returns-then-not-list_is_closed : goal.returns-then-not-list_is_closed
returns-then-not-list_is_closed c =
    let d = c.len-here-end.ensures in
    let within : c.loop-here.here < length c.args.p.now.functions.items = omega (arith, d, c.loop-here-test.true) in
    not_closed c.args.p.now c.loop-here.here c.index.result.now c.deref.result.now c.list_is_closed.result within
    c.index.ensures c.deref.ensures.value c.list_is_closed.ensures c.loop-here.talks c.loop-here.invariant
    c.if-not-list_is_closed.true

pub loop-here-preserved : goal.loop-here-preserved
loop-here-preserved c =
    let d = c.len-here-end.ensures in
    let within : c.loop-here.here < length c.args.p.now.functions.items = omega (arith, d, c.loop-here-test.true) in
    kept_on c.args.p.now c.loop-here.here c.index.result.now c.deref.result.now c.list_is_closed.result within
    c.index.ensures c.deref.ensures.value c.list_is_closed.ensures c.list_talks-comes.result
    c.deref-in-loop-here.result.now c.deref-in-loop-here.ensures.value c.list_talks-comes.ensures c.loop-here.talks
    c.if-here-lt-REMEMBERED.talks c.loop-here.invariant c.if-not-list_is_closed.false
    (elim c.if-here-lt-REMEMBERED.branch [
      | then-here-lt-REMEMBERED w ↦ inl (w.talks-is, w.if-here-lt-REMEMBERED.true)
      | else-here-lt-REMEMBERED w ↦ inr (w.talks-is, w.if-here-lt-REMEMBERED.false)
    ])
