use Rattle.std.proofs.Common.{◌&&◌, not, ap, sym, ◌∙◌}
use Rattle.std.specs.Int.{w128}
use Rattle.std.specs.Prelude.{int_div}
use Rattle.std.proofs.lemmas.Int.{quot_is}
use Rattle.ep_int.specs.Arith.{is_in_range}
use Rattle.ep_int.proofs.Arithmetic.{in_range_some_type, in_range_test, nonzero_test, quotient_fits}
use Rattle.ep_int.proofs.operators.is_divisible.Goals as goal

pub returns-then-y-ne0 : goal.returns-then-y-ne0
returns-then-y-ne0 c =
    let t = c.args.t in
    let x = c.args.x in
    let y = c.args.y in
    let exact = quot_is w128 x y c.ranges.x c.ranges.y (quotient_fits x y (in_range_some_type t x c.requires.left)) in
    in_range_test t _ c.in_range.result c.in_range.ensures
    ∙ ap (is_in_range t) exact
    ∙ ap (λ b. not b && is_in_range t (int_div x y)) (sym (nonzero_test y c.if-y-ne0.true))
