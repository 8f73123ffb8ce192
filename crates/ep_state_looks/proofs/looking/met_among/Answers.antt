use Rattle.std.proofs.Common.{◌+◌, ap, map, drop}
use Rattle.ep_scalar_reads.proofs.Bytes.{drop_at}
use Rattle.ep_state_looks.specs.Looks.{is_met}
use Rattle.ep_state_looks.proofs.Windows.{kept_turn}
use Rattle.ep_state_looks.proofs.looking.met_among.Goals as goal

pub loop-x-preserved : goal.loop-x-preserved
loop-x-preserved g c =
    kept_turn (is_met c.args.model c.args.p.now) c.x-item.result.now (map (λ r. r.now) (drop c.loop-x.x-index
    c.args.cells.now)) (map (λ r. r.now) (drop (c.loop-x.x-index + 1) c.args.cells.now)) c.loop-x.out.items
    c.push_met.new.out.items _
    (ap (map (λ r. r.now)) (drop_at c.args.cells.now c.loop-x.x-index c.x-item.result c.x-item.is c.loop-x-test.true))
    c.in_ok-push_met.ensures c.loop-x.invariant
