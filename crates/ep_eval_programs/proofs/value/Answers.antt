use Rattle.ep_core.specs.ProgramView.{program_view}
use Rattle.ep_core.specs.View.{expr_view}
use Rattle.ep_eval_programs.proofs.Fits.{expr_fit}
use Rattle.ep_eval_programs.proofs.value.Goals as goal

pub eval-requires : goal.eval-requires
eval-requires g c =
    record { fit = expr_fit (program_view c.args.program.now) (expr_view c.args.e.now) c.requires.typed }
