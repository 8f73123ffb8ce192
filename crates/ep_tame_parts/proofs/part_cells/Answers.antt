use Rattle.ep_tame_parts.proofs.Same.{parts_have_cells}
use Rattle.ep_tame_parts.proofs.Scalars.{leaves_are_scalars}
use Rattle.ep_tame_parts.proofs.part_cells.Goals as goal

pub returns-clause-cells : goal.returns-clause-cells
returns-clause-cells c = λ t built tame whole o ty s at sz. parts_have_cells t built tame whole o ty s at sz

pub returns-clause-scalars : goal.returns-clause-scalars
returns-clause-scalars c = λ t built tame ty o w h. leaves_are_scalars t built tame ty o w h
