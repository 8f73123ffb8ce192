use Rattle.std.proofs.Common.{◌≡◌, ◌^◌, ◌<◌, unsigned_abs, FitsSigned, rules, subst, sym}
use Rattle.std.specs.Int.{w128}
use Rattle.std.proofs.lemmas.Int.{to_z-of_z}
use Rattle.ep_int.specs.Types.{bits_of, representation}
use Rattle.ep_int.proofs.Wrapping.{representation_below}
use Rattle.ep_bitslice.proofs.Walks.{unsigned_value}
use Rattle.ep_bitslice.proofs.form.representation.Goals as goal

value : (c : goal.After-wrap) → unsigned_abs c.wrap.result ≡ representation c.args.t c.args.v
value c =
    let f : FitsSigned w128 c.args.v = search rules in
    let e = simp to_z-of_z at c.wrap.ensures.value in
    unsigned_value c.unsigned.result c.args.t c.args.v c.wrap.result c.unsigned.ensures.sign c.unsigned.ensures.width e

pub returns-clause-value : goal.returns-clause-value
returns-clause-value c =
    let f : FitsSigned w128 c.wrap.result = search rules in
    simp to_z-of_z (value c)

pub returns-clause-within : goal.returns-clause-within
returns-clause-within c =
    let f : FitsSigned w128 c.wrap.result = search rules in
    simp to_z-of_z (subst (λ n. n < 2 ^ bits_of c.args.t) (sym (value c)) (representation_below c.args.t c.args.v))
