use Rattle.std.proofs.lemmas.Int.{to_z-of_z}
use Rattle.ep_int.proofs.Arithmetic.{in_range_some_type, amount_found, shifted_left}
use Rattle.ep_int.proofs.operators.shift_left.Goals as goal

pub returns : goal.returns
returns c =
    let fx = c.ranges.x in
    let fy = c.ranges.y in
    let found = amount_found c.args.t c.args.y c.in_ok-by.by (simp to_z-of_z at c.in_ok-by.ensures) in
    let negative = simp to_z-of_z at c.if-x-lt0.false in
    shifted_left c.args.t c.args.x c.args.y c.in_ok-by.by c.settle.result (in_range_some_type c.args.t c.args.x c.requires) found.0 found.1 negative c.settle.ensures
