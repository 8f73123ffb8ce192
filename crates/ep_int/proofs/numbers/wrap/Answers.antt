use Rattle.std.proofs.Common.{◌≡◌, FitsSigned, ap, sym, subst, ◌∙◌, rules}
use Rattle.std.specs.Int.{w128}
use Rattle.std.proofs.lemmas.Int.{to_z-of_z}
use Rattle.ep_int.specs.Types.{IsCongruent, representation, represented, wrapped}
use Rattle.ep_int.proofs.Wrapping.{wrapped_congruent}
use Rattle.ep_int.proofs.numbers.wrap.Goals as goal

pub returns-clause-congruent : goal.returns-clause-congruent
returns-clause-congruent c =
    let t = c.args.t in
    let v = c.args.v in
    let r = c.from_representation.result in
    let fits : FitsSigned w128 r = search rules in
    let kept = c.to_representation.ensures.value ∙ ap (representation t) (to_z-of_z w128 v c.ranges.v) in
    let is : r ≡ wrapped t v = c.from_representation.ensures ∙ ap (represented t) kept in
    subst (IsCongruent t v) (sym (to_z-of_z w128 r fits ∙ is)) (wrapped_congruent t v)
