use Rattle.ep_core.specs.ProgramView.{program_view}
use Rattle.ep_flows.specs.View.{orders}
use Rattle.ep_cell_walks.proofs.States.{state_made}
use Rattle.ep_cell_walks.proofs.running.is_state.Goals as goal

pub returns : goal.returns
returns g c =
    state_made g.N.Num.ops (program_view c.args.c.now.program.now) (orders c.args.c.now.left c.args.c.now.right)
    c.args.state.now c.has_orders.result c.is_model.result c.orders.result c.model.result c.model-2.result
    c.has_orders.ensures c.orders.ensures c.is_model.ensures c.model.ensures.value c.model-2.ensures.model
    c.model.ensures.cells
