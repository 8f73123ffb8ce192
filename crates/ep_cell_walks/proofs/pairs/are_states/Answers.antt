use Rattle.ep_core.specs.ProgramView.{program_view}
use Rattle.ep_flows.specs.View.{orders}
use Rattle.ep_cell_walks.proofs.States.{models_by}
use Rattle.ep_cell_walks.proofs.pairs.are_states.Goals as goal

pub returns-clause-model : goal.returns-clause-model
returns-clause-model g c =
    models_by g.N.Num.ops (program_view c.args.c.now.program.now) (orders c.args.c.now.left c.args.c.now.right)
    c.args.k.now c.args.l.now c.is_state.result c.is_state-2.result c.is_state.ensures c.is_state-2.ensures
