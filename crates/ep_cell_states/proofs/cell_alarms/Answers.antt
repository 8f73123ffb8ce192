use Rattle.std.proofs.Common.{true, false}
use Rattle.ep_pass.proofs.Placing.{alarms_stand}
use Rattle.ep_transfers.specs.Cells.{cell_ops}
use Rattle.ep_alarm_laws.proofs.Safe.{plain_honest, even_honest}
use Rattle.ep_cell_states.proofs.cell_alarms.Goals as goal

pub returns-clause-cells : goal.returns-clause-cells
returns-clause-cells g c p ord formed built u limit =
    alarms_stand p false formed (cell_ops g.N.Num.ops p ord)
    (plain_honest g.N.Num.ops g.met.N.Num.laws p ord formed built) u limit ord

pub returns-clause-even : goal.returns-clause-even
returns-clause-even g c keeps products p ord formed built u limit =
    alarms_stand p true formed (cell_ops g.N.Num.ops p ord)
    (even_honest g.N.Num.ops g.met.N.Num.laws keeps products p ord formed built) u limit ord
