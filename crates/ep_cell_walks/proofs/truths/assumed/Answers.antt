use Rattle.std.proofs.Common.{◌∙◌, ap}
use Rattle.ep_core.specs.ProgramView.{program_view}
use Rattle.ep_core.specs.View.{expr_view}
use Rattle.ep_evaluation.specs.Evaluation.{expression, test_taken}
use Rattle.ep_cell_walks.proofs.Typed.{fit_typed}
use Rattle.ep_cell_walks.proofs.truths.assumed.Goals as goal

pub test_taken-requires : goal.test_taken-requires
test_taken-requires g c = fit_typed (program_view c.args.c.now.program.now) (expr_view c.args.e.now) c.requires

pub returns : goal.returns
returns g c =
    c.in_ok-own.ensures ∙ c.in_ok-left.ensures
    ∙ ap (λ ns. test_taken g.N.Num.ops (expression g.N.Num.ops ns (expr_view c.args.e.now)) c.args.on_left
    c.args.on_right c.args.state.now) c.args.c.now.sized
