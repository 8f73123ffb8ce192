use Rattle.ep_cell_states.proofs.Lawful.{cells_lawful, cells_agree}
use Rattle.ep_cell_states.proofs.cell_states.Goals as goal

pub returns-clause-lawful : goal.returns-clause-lawful
returns-clause-lawful g c = cells_lawful g.N.Num.ops g.met.N.Num.laws

pub returns-clause-agree : goal.returns-clause-agree
returns-clause-agree g c = cells_agree g.N.Num.ops g.met.N.Num.laws
