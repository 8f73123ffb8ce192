use Rattle.ep_closed_numbers.proofs.Exact.{cells_report}
use Rattle.ep_closed_numbers.proofs.closed_number_reports.Goals as goal

pub returns : goal.returns
returns c = cells_report _ (c.closed_states.ensures c.single_numbers.ensures)
