use Rattle.ep_congruence_domain.specs.Congruence.{conversion_of}
use Rattle.ep_congruence_domain.proofs.Formed.{same_class}
use Rattle.ep_congruence.proofs.congruence.CongruenceNum.convert.Goals as goal

pub returns : goal.returns
returns c = same_class c.converted.result (conversion_of c.args.self.now c.args.t) c.converted.ensures
