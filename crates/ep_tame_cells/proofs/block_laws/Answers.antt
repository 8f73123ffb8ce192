use Rattle.ep_tame_cells.proofs.Entered.{block_laws_of}
use Rattle.ep_tame_cells.proofs.block_laws.Goals as goal

pub returns : goal.returns
returns g c = block_laws_of g.N.Num.ops
