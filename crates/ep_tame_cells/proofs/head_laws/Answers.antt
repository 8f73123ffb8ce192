use Rattle.ep_tame_cells.proofs.Heads.{head_laws_of}
use Rattle.ep_tame_cells.proofs.head_laws.Goals as goal

pub returns : goal.returns
returns g c = head_laws_of g.N.Num.ops g.met.N.Num.laws
