use Rattle.std.proofs.Common.{rules, arith, sym}
use Rattle.ep_cert_cells.proofs.Readers.{one_more, none_more, all_read}
use Rattle.ep_cert_cells.proofs.pointers.targets.Goals as goal

pub returns-in-None : goal.returns-in-None
returns-in-None c = none_more _ _ _ _ _ _ c.loop-test.true c.loop.invariant (sym c.in-None.ensures)

pub loop-preserved : goal.loop-preserved
loop-preserved c =
    one_more _ _ _ _ _ _ _ _ _ c.loop-test.true c.in-Some.ensures (search rules) c.loop.invariant

pub returns : goal.returns
returns c = all_read _ _ _ _ _ _ (omega (arith, c.loop-test.false)) c.loop.invariant
