use Rattle.std.proofs.Common.{sym, ◌∙◌}
use Rattle.std.proofs.lemmas.Int.{to_z-of_z}
use Rattle.ep_congruence_domain.specs.Congruence.{single_of}
use Rattle.ep_congruence_domain.proofs.Formed.{same_class}
use Rattle.ep_congruence_domain.proofs.Simple.{single_class}
use Rattle.ep_congruence.proofs.congruence.CongruenceNum.single.Goals as goal

pub returns : goal.returns
returns c =
    let f = c.ranges.v in
    let e = simp to_z-of_z at c.one.ensures in
    same_class c.one.result (single_of c.args.v) (e ∙ sym (single_class c.args.v c.requires))
