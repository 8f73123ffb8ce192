use Rattle.std.proofs.Common.{arith}
use Rattle.ep_state_synthesis.proofs.Bytes.{none_past}
use Rattle.ep_state_synthesis.proofs.reading.cell_at.Goals as goal

pub returns-then-byte-from : goal.returns-then-byte-from
returns-then-byte-from g c =
    none_past c.args.state.now.model c.args.side c.args.block c.args.byte c.args.state.now.cells c.model.ensures.cells
    (omega (arith, c.if-byte-from.true))
