use Rattle.std.proofs.Common.{rules, subst, sym, FitsSigned, to_z-of_z}
use Rattle.std.specs.Int.{w128}
use Rattle.ep_int.specs.Arith.{IsOfSomeType}
use Rattle.ep_scalar_reads.proofs.Bytes.{some_weight}
use Rattle.ep_scalar_reads.proofs.read.weighted_number.Goals as goal

pub single-requires : goal.single-requires
single-requires g c =
    let f : FitsSigned w128 c.weight.result = search rules in
    subst IsOfSomeType (sym (to_z-of_z f)) (some_weight c.args.i c.weight.result c.requires
    c.weight.ensures)
