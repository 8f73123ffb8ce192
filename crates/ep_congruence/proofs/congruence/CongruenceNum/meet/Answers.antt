use Rattle.ep_congruence_laws.specs.Classes.{meet_of}
use Rattle.ep_congruence_domain.specs.Congruence.{class_of}
use Rattle.ep_congruence_domain.proofs.Formed.{formed_is}
use Rattle.ep_congruence.proofs.congruence.CongruenceNum.meet.Goals as goal

pub returns : goal.returns
returns c = formed_is c.met.result (meet_of (class_of c.args.self.now) (class_of c.args.o.now)) c.met.ensures
