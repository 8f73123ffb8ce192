use Rattle.ep_elaboration.proofs.ProgramOrder.{means_elaborated}
use Rattle.ep_well_formed_laws.proofs.Whole.{programs_fit}
use Rattle.ep_well_formed_laws.proofs.programs.Goals as goal

pub returns : goal.returns
returns c m is p e = programs_fit m is p (means_elaborated m is p e)
