use Rattle.ep_mover_reports.proofs.mover_number_reports.Goals as goal

pub returns : goal.returns
returns c = c.mover_cells.ensures c.natural_laws.ensures
