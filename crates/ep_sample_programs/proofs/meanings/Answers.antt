use Rattle.ep_sample_programs.proofs.Meant.{means}
use Rattle.ep_sample_programs.proofs.meanings.Goals as goal

pub returns : goal.returns
returns c = means
