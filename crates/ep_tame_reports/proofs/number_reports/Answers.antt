use Rattle.std.proofs.Common.{refl}
use Rattle.ep_tame_reports.proofs.Cells.{cells_report, is_small}
use Rattle.ep_tame_reports.proofs.number_reports.Goals as goal

pub returns : goal.returns
returns c =
    cells_report _ (c.tame_states.ensures c.offset_laws.ensures c.even_laws.ensures.products (is_small _ refl))
