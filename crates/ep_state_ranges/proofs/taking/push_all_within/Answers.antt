use Rattle.std.proofs.Common.{◌+◌, drop}
use Rattle.ep_cells.specs.Cells.{encloses, place_of}
use Rattle.ep_scalar_reads.proofs.Bytes.{drop_at}
use Rattle.ep_state_looks.proofs.Windows.{kept_turn}
use Rattle.ep_state_ranges.proofs.taking.push_all_within.Goals as goal

pub loop-y-preserved : goal.loop-y-preserved
loop-y-preserved g c =
    kept_turn (λ z. encloses c.args.p.now (place_of c.args.model z)) c.y-item.result
    (drop c.loop-y.y-index c.args.ys.now) (drop (c.loop-y.y-index + 1) c.args.ys.now) c.loop-y.out.items
    c.push_within.new.out.items _
    (drop_at c.args.ys.now c.loop-y.y-index c.y-item.result c.y-item.is c.loop-y-test.true) c.in_ok-push_within.ensures
    c.loop-y.invariant
