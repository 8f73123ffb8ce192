use Rattle.std.proofs.Common.{subst}
use Rattle.std.proofs.lemmas.Int.{to_z-of_z}
use Rattle.std.proofs.lemmas.Nat.{or_lt, xor_lt}
use Rattle.ep_int.specs.declared.types.BinOp.{BinOp}
use Rattle.ep_int.specs.Types.{bits_of}
use Rattle.ep_int.specs.Arith.{IsRightOperand}
use Rattle.ep_int.proofs.Arithmetic.{in_range_some_type, sum_fits, difference_fits}
use Rattle.ep_int.proofs.operators.arith.Goals as goal

pub from_representation-requires-in-Or : goal.from_representation-requires-in-Or
from_representation-requires-in-Or c =
    or_lt (bits_of c.args.t) _ _ c.to_representation-in-Or.ensures.within c.to_representation-in-Or-2.ensures.within

pub from_representation-requires-in-Xor : goal.from_representation-requires-in-Xor
from_representation-requires-in-Xor c =
    xor_lt (bits_of c.args.t) _ _ c.to_representation-in-Xor.ensures.within c.to_representation-in-Xor-2.ensures.within

pub returns-in-Add : goal.returns-in-Add
returns-in-Add c =
    let fx = c.ranges.x in
    let fy = c.ranges.y in
    let right = subst (λ (op : BinOp). IsRightOperand op c.args.t c.args.y) c.in-Add.is c.requires.right in
    let fits = sum_fits c.args.x c.args.y (in_range_some_type c.args.t c.args.x c.requires.left) (in_range_some_type c.args.t c.args.y right) in
    rw c.in-Add.is (simp to_z-of_z at c.settle.ensures)

pub returns-in-Sub : goal.returns-in-Sub
returns-in-Sub c =
    let fx = c.ranges.x in
    let fy = c.ranges.y in
    let right = subst (λ (op : BinOp). IsRightOperand op c.args.t c.args.y) c.in-Sub.is c.requires.right in
    let fits = difference_fits c.args.x c.args.y (in_range_some_type c.args.t c.args.x c.requires.left) (in_range_some_type c.args.t c.args.y right) in
    rw c.in-Sub.is (simp to_z-of_z at c.settle-in-Sub.ensures)
