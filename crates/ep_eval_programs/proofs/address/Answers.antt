use Rattle.ep_core.specs.ProgramView.{program_view}
use Rattle.ep_core.specs.View.{place_view}
use Rattle.ep_eval_programs.proofs.Fits.{place_fit}
use Rattle.ep_eval_programs.proofs.address.Goals as goal

pub address-requires : goal.address-requires
address-requires g c =
    record { fit = place_fit (program_view c.args.program.now) (place_view c.args.a.now) c.requires.typed }
