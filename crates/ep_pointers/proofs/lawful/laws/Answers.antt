use Rattle.ep_pointers.proofs.Gathered.{pointer_laws}
use Rattle.ep_pointers.proofs.lawful.laws.Goals as goal

pub returns : goal.returns
returns g c = pointer_laws g.N.Num.ops g.met.N.Num.laws
