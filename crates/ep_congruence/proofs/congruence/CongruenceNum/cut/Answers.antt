use Rattle.std.proofs.lemmas.Int.{to_z-of_z}
use Rattle.ep_congruence_laws.specs.Classes.{cut_of}
use Rattle.ep_congruence_domain.specs.Congruence.{class_of}
use Rattle.ep_congruence_domain.proofs.Formed.{formed_is}
use Rattle.ep_congruence.proofs.congruence.CongruenceNum.cut.Goals as goal

pub returns : goal.returns
returns c =
    let f = c.ranges.lo in let g = c.ranges.hi in
    let e = simp to_z-of_z at c.cut_of.ensures in
    formed_is c.cut_of.result (cut_of (class_of c.args.self.now) c.args.lo c.args.hi) e
