use Rattle.std.proofs.Common.{ap, sym, ◌∙◌, not, nat_eq, ◌%◌, rules, FitsSigned, to_z-of_z}
use Rattle.std.specs.Int.{w128}
use Rattle.ep_eval_places.proofs.Odd.{odd_by}
use Rattle.ep_eval_places.proofs.places.is_odd.Goals as goal

pub returns : goal.returns
returns c =
    let f : FitsSigned w128 c.args.z = search rules in
    let e = simp to_z-of_z at c.unsigned_abs.ensures.value in
    ap not (ap (λ m. nat_eq (c.unsigned_abs.result % m) 0) c.from.ensures ∙ ap (λ x. nat_eq (x % c.args.n) 0) e ∙ odd_by c.args.n c.args.z c.requires)
