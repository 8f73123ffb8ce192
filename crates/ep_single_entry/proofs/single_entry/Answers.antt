use Rattle.ep_single_entry.proofs.Begins.{entry_is_exact}
use Rattle.ep_single_entry.proofs.single_entry.Goals as goal

pub returns : goal.returns
returns g c p ord formed = entry_is_exact g.N.Num.ops g.met.N.Num.laws p ord formed
