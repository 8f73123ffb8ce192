use Rattle.std.proofs.Common.{◌≡◌, pos, of_z, to_z, arith}
use Rattle.std.specs.Int.{w128}
use Rattle.std.proofs.lemmas.Int.{ints, to_z-of_z}
use Rattle.ep_int.specs.Types.{residue}
use Rattle.ep_congruence_domain.proofs.Formed.{reduced_code, one_code}
use Rattle.ep_congruence.proofs.results.reduced.Goals as goal

pub returns-then-m-eq0 : goal.returns-then-m-eq0
returns-then-m-eq0 c = one_code c.args.r (to_z w128 (of_z w128 c.args.r)) c.args.m c.formed.result (omega arith) c.formed.ensures (omega (arith, ints))

pub returns-else-m-eq0 : goal.returns-else-m-eq0
returns-else-m-eq0 c =
    let f = c.ranges.r in
    let e = simp to_z-of_z at c.residue.ensures.value in
    let b = c.residue.ensures.below in let l = c.requires in
    let z : to_z w128 c.residue.result ≡ pos (residue c.args.m c.args.r) = omega (arith, ints) in
    reduced_code c.args.r (to_z w128 c.residue.result) c.args.m c.formed-else-m-eq0.result (omega arith) c.formed-else-m-eq0.ensures z
