use Rattle.std.proofs.Common.{◌≡◌, true, nat_le, arith, rules}
use Rattle.std.proofs.lemmas.Bool.Decides.{nat_tests}
use Rattle.ep_eval_places.proofs.moves.offset_number.Goals as goal

pub returns : goal.returns
returns g c =
    let e : nat_le c.args.offset 4294967295 ≡ true = grind (arith, nat_tests) in
    rw e (search rules)
