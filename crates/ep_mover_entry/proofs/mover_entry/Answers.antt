use Rattle.ep_mover_entry.proofs.Begins.{entries_moved}
use Rattle.ep_mover_entry.proofs.mover_entry.Goals as goal

pub returns : goal.returns
returns g c = entries_moved g.N.Num.ops g.met.N.Num.laws
