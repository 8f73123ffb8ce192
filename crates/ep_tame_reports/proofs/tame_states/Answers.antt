use Rattle.ep_tame_reports.proofs.Cells.{cells_are_tamely}
use Rattle.ep_tame_reports.proofs.tame_states.Goals as goal

pub returns : goal.returns
returns g c keeps products small =
    cells_are_tamely g.N.Num.ops g.met.N.Num.laws keeps products small
