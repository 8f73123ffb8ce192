use Rattle.ep_tame_changes.proofs.Killed.{blocks_keep_good}
use Rattle.ep_tame_changes.proofs.change_laws.Goals as goal

pub returns : goal.returns
returns g c p fit ord = blocks_keep_good g.N.Num.ops g.met.N.Num.laws p fit ord
