use Rattle.ep_tame_cells.proofs.Shapes.{shape_laws_of}
use Rattle.ep_tame_cells.proofs.shape_laws.Goals as goal

pub returns : goal.returns
returns g c = shape_laws_of g.N.Num.ops
