use Rattle.std.proofs.Common.{ap, sym, ◌∙◌, of_z}
use Rattle.std.specs.Int.{w128}
use Rattle.std.proofs.lemmas.Int.{to_z-of_z}
use Rattle.ep_congruence_domain.specs.Congruence.{class_of}
use Rattle.ep_congruence.proofs.Machine.{cut_itself}
use Rattle.ep_congruence.proofs.congruence.Congruence.cut_of.Goals as goal

pub returns-else-first-last : goal.returns-else-first-last
returns-else-first-last c =
    let f = c.ranges.lo in let g = c.ranges.hi in
    let e = simp to_z-of_z at c.edges_of.ensures.value in
    cut_itself (class_of c.args.self.now) c.args.lo c.args.hi c.in_ok-first.first c.in_ok-first.last (sym e ∙ c.in_ok-first.was) (λ q. c.if-first-last.false (ap (of_z w128) q))
