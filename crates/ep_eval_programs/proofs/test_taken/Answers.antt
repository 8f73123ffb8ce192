use Rattle.ep_core.specs.ProgramView.{program_view}
use Rattle.ep_core.specs.View.{expr_view}
use Rattle.ep_eval_programs.proofs.Fits.{test_fit}
use Rattle.ep_eval_programs.proofs.test_taken.Goals as goal

pub test_taken_where-requires-clause-fit : goal.test_taken_where-requires-clause-fit
test_taken_where-requires-clause-fit g c =
    test_fit (program_view c.args.program.now) (expr_view c.args.e.now) c.requires.typed
