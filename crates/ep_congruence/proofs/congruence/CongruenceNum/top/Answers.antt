use Rattle.std.proofs.Common.{refl}
use Rattle.ep_congruence_domain.specs.Congruence.{top_of}
use Rattle.ep_congruence_domain.proofs.Formed.{same_class}
use Rattle.ep_congruence.proofs.congruence.CongruenceNum.top.Goals as goal

pub returns : goal.returns
returns c = same_class _ (top_of c.args.t) refl
