use Rattle.ep_sample_laws.proofs.Whole.{means_within}
use Rattle.ep_sample_laws.proofs.samples.Goals as goal

pub returns : goal.returns
returns c = means_within
