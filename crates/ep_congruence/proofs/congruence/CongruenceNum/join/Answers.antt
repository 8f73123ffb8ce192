use Rattle.ep_congruence_domain.specs.Congruence.{join_of}
use Rattle.ep_congruence_domain.proofs.Formed.{same_class}
use Rattle.ep_congruence.proofs.congruence.CongruenceNum.join.Goals as goal

pub returns : goal.returns
returns c = same_class c.joined.result (join_of c.args.self.now c.args.o.now) c.joined.ensures
