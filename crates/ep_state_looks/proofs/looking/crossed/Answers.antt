use Rattle.std.proofs.Common.{◌+◌, drop}
use Rattle.ep_reads.specs.Unify.{is_crossed}
use Rattle.ep_scalar_reads.proofs.Bytes.{drop_at}
use Rattle.ep_state_looks.proofs.Windows.{kept_turn}
use Rattle.ep_state_looks.proofs.looking.crossed.Goals as goal

pub loop-x-preserved : goal.loop-x-preserved
loop-x-preserved g c =
    kept_turn (is_crossed c.args.state.now.model c.args.state.now.cells) c.x-item.result (drop c.loop-x.x-index
    c.args.xs.now) (drop (c.loop-x.x-index + 1) c.args.xs.now) c.loop-x.out.items c.push_crossed.new.out.items _
    (drop_at c.args.xs.now c.loop-x.x-index c.x-item.result c.x-item.is c.loop-x-test.true)
    c.in_ok-push_crossed.ensures c.loop-x.invariant
