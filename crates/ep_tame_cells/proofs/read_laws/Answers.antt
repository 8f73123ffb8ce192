use Rattle.ep_tame_cells.proofs.Exact.{read_laws_of}
use Rattle.ep_tame_cells.proofs.read_laws.Goals as goal

pub returns : goal.returns
returns g c = read_laws_of g.N.Num.ops
