use Rattle.ep_sample_cuts.proofs.Texts.{cut}
use Rattle.ep_sample_cuts.proofs.cuts.Goals as goal

pub returns : goal.returns
returns c = cut
