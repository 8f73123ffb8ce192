use Rattle.ep_tame_cells.proofs.Falls.{rank_laws_of}
use Rattle.ep_tame_cells.proofs.rank_laws.Goals as goal

pub returns : goal.returns
returns g c = rank_laws_of g.N.Num.ops g.met.N.Num.laws
