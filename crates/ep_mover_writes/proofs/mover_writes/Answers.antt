use Rattle.ep_mover_writes.proofs.Others.{others_dont_count}
use Rattle.ep_mover_writes.proofs.Writes.{writes_keep}
use Rattle.ep_mover_writes.proofs.mover_writes.Goals as goal

pub returns-clause-writes : goal.returns-clause-writes
returns-clause-writes g c = writes_keep g.N.Num.ops g.met.N.Num.laws

pub returns-clause-others : goal.returns-clause-others
returns-clause-others g c = others_dont_count g.N.Num.ops
