use Rattle.std.proofs.Common.{◌+◌, map, drop, ap, arith}
use Rattle.ep_int.proofs.Basics.{drop-at}
use Rattle.ep_cert_cells.specs.Bytes.{cell_bytes}
use Rattle.ep_cert_writing.proofs.Written.{item_more, items_done, none_left}
use Rattle.ep_cert_writing.proofs.cells.put_cells.Goals as goal

pub loop-c-preserved : goal.loop-c-preserved
loop-c-preserved c =
    item_more cell_bytes _ c.loop-c.out.items c.put_cell.new.out.items
    (map (λ r. r.now) (drop c.loop-c.c-index c.args.cells.now))
    (map (λ r. r.now) (drop (c.loop-c.c-index + 1) c.args.cells.now)) c.c-item.result.now
    (ap (map (λ r. r.now)) (drop-at c.loop-c.c-index c.args.cells.now c.c-item.result c.loop-c-test.true c.c-item.is))
    c.in_ok-put_cell.ensures c.loop-c.invariant

pub returns : goal.returns
returns c =
    items_done cell_bytes _ _ (map (λ r. r.now) (drop c.loop-c.c-index c.args.cells.now))
    (ap (map (λ r. r.now)) (none_left c.loop-c.c-index c.args.cells.now (omega (arith, c.loop-c-test.false))))
    c.loop-c.invariant
