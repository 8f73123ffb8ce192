use Rattle.ep_core.specs.Runs.{left, right}
use Rattle.ep_transfers.specs.Cells.{cell_ops}
use Rattle.ep_transfers.specs.Laws.{StandsFor}
use Rattle.ep_mover_laws.proofs.Reports.{agreeing_nothing, mover_form}
use Rattle.ep_mover_entry.specs.Laws.{IsMoved}
use Rattle.ep_mover_reports.proofs.Gathered.{cells_keep}
use Rattle.ep_mover_reports.proofs.mover_cells.Goals as goal

pub returns : goal.returns
returns g c naturals p ord formed text other agree u limit =
    let keeps = cells_keep g.N.Num.ops naturals c.mover_steps.ensures.steps c.mover_steps.ensures.alone
    c.mover_entry.ensures c.mover_take_bytes.ensures c.mover_put_bytes.ensures c.mover_ends.ensures in
    agreeing_nothing p formed ord (cell_ops g.N.Num.ops p ord) (StandsFor g.N.Num.ops p ord)
    (c.cell_states.ensures.lawful p ord formed other) (IsMoved g.N.Num.ops p ord)
    (keeps p ord formed (mover_form p (ord left) (ord right) text) other) text agree u limit
