use Rattle.std.proofs.Common.{rules, arith, sym}
use Rattle.ep_cert_cells.specs.Reading.{list_at, cell_at}
use Rattle.ep_cert_cells.proofs.Readers.{one_more, none_more, all_read, passes}
use Rattle.ep_cert_cells.proofs.cells.cells_at.Goals as goal

pub returns-in-Err : goal.returns-in-Err
returns-in-Err c =
    passes c.in-Err.why (cell_at c.loop.rest.now) (list_at cell_at c.args.count c.args.bytes.now)
    (λ n. none_more _ _ _ _ _ _ c.loop-test.true c.loop.invariant n) c.in-Err.ensures

pub loop-preserved : goal.loop-preserved
loop-preserved c =
    one_more _ _ _ _ _ _ _ _ _ c.loop-test.true (sym c.in-Ok.ensures) (search rules) c.loop.invariant

pub returns : goal.returns
returns c = all_read _ _ _ _ _ _ (omega (arith, c.loop-test.false)) c.loop.invariant
