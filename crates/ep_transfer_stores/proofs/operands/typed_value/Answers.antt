use Rattle.std.proofs.Common.{ap, ◌∙◌, ◌++◌}
use Rattle.ep_core.specs.Runs.{left, right}
use Rattle.ep_core.specs.ProgramView.{program_view}
use Rattle.ep_core.specs.View.{expr_view}
use Rattle.ep_evaluation.specs.Evaluation.{expression}
use Rattle.ep_transfer_stores.proofs.Fitting.{expr_fit, value_fits}
use Rattle.ep_transfer_stores.proofs.operands.typed_value.Goals as goal

pub eval-requires : goal.eval-requires
eval-requires g c =
    record { fit = expr_fit (program_view c.args.program.now) c.args.what (expr_view c.args.e.now) c.requires.typed }

pub returns-clause-value : goal.returns-clause-value
returns-clause-value g c =
    c.in_ok-value.ensures.value
    ∙ ap (λ zs. ((expression g.N.Num.ops zs (expr_view c.args.e.now)).gives c.args.mode c.args.state.now).pair)
    c.requires.sizes

pub returns-clause-left : goal.returns-clause-left
returns-clause-left g c =
    value_fits g.N.Num.ops (program_view c.args.program.now) c.evaluation_laws.ensures c.args.program.now.well_formed
    c.args.what (expr_view c.args.e.now) c.requires.typed c.args.state.now c.requires.model c.model.ensures.cells
    c.args.mode left c.in_ok-value.value (returns-clause-value g c)

pub returns-clause-right : goal.returns-clause-right
returns-clause-right g c =
    value_fits g.N.Num.ops (program_view c.args.program.now) c.evaluation_laws.ensures c.args.program.now.well_formed
    c.args.what (expr_view c.args.e.now) c.requires.typed c.args.state.now c.requires.model c.model.ensures.cells
    c.args.mode right c.in_ok-value.value (returns-clause-value g c)

pub returns-clause-faults : goal.returns-clause-faults
returns-clause-faults g c =
    c.in_ok-value.ensures.faults
    ∙ ap (λ zs. c.args.faults.now.items
    ++ ((expression g.N.Num.ops zs (expr_view c.args.e.now)).gives c.args.mode c.args.state.now).faults) c.requires.sizes
