use Rattle.ep_single_shared.proofs.Shares.{reshares_keep_one}
use Rattle.ep_single_shared.proofs.single_shared.Goals as goal

pub returns : goal.returns
returns g c keeps k m one = reshares_keep_one g.N.Num.ops g.met.N.Num.laws keeps k m one
