use Rattle.std.proofs.Common.{sym, ◌∙◌}
use Rattle.std.proofs.lemmas.Int.{to_z-of_z}
use Rattle.ep_congruence_laws.proofs.Operations.{edges_more}
use Rattle.ep_congruence_domain.specs.Congruence.{class_of}
use Rattle.ep_congruence.proofs.congruence.Congruence.edges_from.Goals as goal

pub returns : goal.returns
returns c =
    let f = c.ranges.lo in let g = c.ranges.hi in
    let e = simp to_z-of_z at c.edges_of_more.ensures in
    e ∙ sym (edges_more (class_of c.args.self.now) c.args.lo c.args.hi (sym c.is_one.ensures ∙ c.if-is_one.false))
