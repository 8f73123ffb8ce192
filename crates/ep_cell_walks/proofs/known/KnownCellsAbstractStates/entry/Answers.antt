use Rattle.std.proofs.Common.{refl}
use Rattle.ep_flows.specs.View.{orders}
use Rattle.ep_cell_walks.proofs.known.KnownCellsAbstractStates.entry.Goals as goal

pub returns : goal.returns
returns g c = c.in_ok-state.ensures (orders c.args.c.now.left c.args.c.now.right) refl refl
