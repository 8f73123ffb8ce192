use Rattle.std.proofs.Common.{◌↔◌, IsTrue, subst}
use Rattle.std.specs.Int.{w128}
use Rattle.std.proofs.lemmas.Int.{to_z-of_z}
use Rattle.ep_int.proofs.Arithmetic.{in_range_test}
use Rattle.ep_int.specs.Types.{InRange}
use Rattle.ep_double.proofs.mover.numbers.is_number_of.Goals as goal

pub returns : goal.returns
returns c =
    in_range_test c.args.t c.args.v c.in_range.result
    (subst (λ v. IsTrue c.in_range.result ↔ InRange c.args.t v) (to_z-of_z w128 c.args.v c.ranges.v) c.in_range.ensures)
