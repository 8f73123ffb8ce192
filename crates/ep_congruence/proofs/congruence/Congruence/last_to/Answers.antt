use Rattle.std.proofs.Common.{pos, ◌-ℤ◌, FitsSigned, arith, ap, ◌∙◌}
use Rattle.std.specs.Int.{w128}
use Rattle.std.proofs.lemmas.Int.{ints, to_z-of_z}
use Rattle.ep_int.specs.Types.{residue}
use Rattle.ep_congruence.proofs.congruence.Congruence.last_to.Goals as goal

pub returns : goal.returns
returns c =
    let p = c.requires.low in let q = c.requires.high in
    let l = c.remainder.ensures.low in let u = c.remainder.ensures.high in
    let f = c.ranges.hi in
    let g : FitsSigned w128 c.remainder.result = omega (arith, ints) in
    let d : FitsSigned w128 (c.args.hi -ℤ c.remainder.result) = omega (arith, ints) in
    let e = simp to_z-of_z at c.left.ensures.value in
    let x = c.left.ensures.low in let y = c.left.ensures.high in
    omega (arith, ints) ∙ ap (λ z. c.args.hi -ℤ z) (e ∙ ap (λ r. pos (residue c.args.self.now.modulus (c.args.hi -ℤ r))) c.remainder.ensures.value)
