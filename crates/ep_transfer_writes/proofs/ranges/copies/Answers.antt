use Rattle.std.proofs.Common.{◌≤◌, arith}
use Rattle.ep_transfer_writes.specs.Running.{copies}
use Rattle.ep_transfer_writes.proofs.Copying.{next_copy, no_copies}
use Rattle.ep_transfer_writes.proofs.ranges.copies.Goals as goal

pub loop-i-preserved : goal.loop-i-preserved
loop-i-preserved g c =
    next_copy c.args.c.now c.in_ok-x.x c.args.bytes c.loop-i.i c.loop-i.out.items c.push.new.out.items
    (copies c.args.c.now c.args.bytes) (omega arith) c.in_ok-x.ensures c.in_ok-push.ensures c.loop-i.invariant

pub returns : goal.returns
returns g c =
    let e : c.args.bytes ≤ c.loop-i.i = omega arith in
    no_copies c.args.c.now c.args.bytes c.loop-i.i c.loop-i.out.items (copies c.args.c.now c.args.bytes) e
    c.loop-i.invariant
