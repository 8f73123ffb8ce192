use Rattle.ep_core.specs.ProgramView.{program_view}
use Rattle.ep_flows.specs.View.{orders}
use Rattle.ep_transfers.specs.Cells.{unified_known}
use Rattle.ep_cell_walks.proofs.Both.{pair_is}
use Rattle.ep_certcheck.proofs.cells.CheckedCellsAbstractStates.unified.Goals as goal

pub returns : goal.returns
returns g c =
    pair_is (unified_known g.N.Num.ops (program_view c.args.c.now.program.now) (orders c.args.c.now.left c.args.c.now.right))
    (c.in_ok-left.left, c.in_ok-left.right) c.self.inside.known c.args.self c.other.inside.known c.args.other
    c.in_ok-left.ensures c.self.view_is c.other.view_is
