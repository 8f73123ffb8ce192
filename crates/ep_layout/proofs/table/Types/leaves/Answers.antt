use Rattle.std.proofs.Common.{subst, sym}
use Rattle.ep_layout.specs.Table.{AreLeavesOf}
use Rattle.ep_layout.proofs.Ordered.{leaves_ordered}
use Rattle.ep_layout.proofs.table.Types.leaves.Goals as goal

pub returns-in-Ok-clause-ordered : goal.returns-in-Ok-clause-ordered
returns-in-Ok-clause-ordered c = subst (AreLeavesOf c.args.self.now c.args.ty) (sym c.in-Ok.ensures) (leaves_ordered c.args.self.now c.args.ty)
