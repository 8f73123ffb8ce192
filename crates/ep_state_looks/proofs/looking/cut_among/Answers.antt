use Rattle.std.proofs.Common.{◌+◌, ap, map, drop}
use Rattle.ep_cells.specs.Cells.{is_partly_in, place_of}
use Rattle.ep_scalar_reads.proofs.Bytes.{drop_at}
use Rattle.ep_state_looks.proofs.Windows.{kept_turn}
use Rattle.ep_state_looks.proofs.looking.cut_among.Goals as goal

pub loop-c-preserved : goal.loop-c-preserved
loop-c-preserved g c =
    kept_turn (λ x. is_partly_in c.args.p.now (place_of c.args.model x)) c.c-item.result.now (map (λ r. r.now)
    (drop c.loop-c.c-index c.args.cells.now)) (map (λ r. r.now) (drop (c.loop-c.c-index + 1) c.args.cells.now))
    c.loop-c.out.items c.push_cut.new.out.items _
    (ap (map (λ r. r.now)) (drop_at c.args.cells.now c.loop-c.c-index c.c-item.result c.c-item.is c.loop-c-test.true))
    c.in_ok-push_cut.ensures c.loop-c.invariant
