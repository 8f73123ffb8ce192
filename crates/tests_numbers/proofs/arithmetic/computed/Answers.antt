use Rattle.std.proofs.Common.{ℤ, FitsSigned, sym, subst, rules}
use Rattle.std.specs.Int.{w128}
use Rattle.std.proofs.lemmas.Int.{to_z-of_z}
use Rattle.ep_int.specs.Types.{InRange}
use Rattle.ep_int.specs.Arith.{IsOfSomeType, IsRightOperand}
use Rattle.ep_int.proofs.Arithmetic.{in_range_some_type, right_operand}
use Rattle.tests_numbers.proofs.arithmetic.computed.Goals as goal

pub arith-requires-clause-right : goal.arith-requires-clause-right
arith-requires-clause-right c =
    let r = c.wrap-in-Shl.result in
    let fits : FitsSigned w128 r = search rules in
    subst IsOfSomeType (sym (to_z-of_z w128 r fits)) (in_range_some_type c.args.row.now.right r c.wrap-in-Shl.ensures.in_range)

pub arith-requires-in-Shr-clause-right : goal.arith-requires-in-Shr-clause-right
arith-requires-in-Shr-clause-right c =
    let r = c.wrap-in-Shr-2.result in
    let fits : FitsSigned w128 r = search rules in
    subst IsOfSomeType (sym (to_z-of_z w128 r fits)) (in_range_some_type c.args.row.now.right r c.wrap-in-Shr-2.ensures.in_range)

pub arith-requires-in_default : goal.arith-requires-in_default
arith-requires-in_default c =
    let t = c.common-t.result in
    let x = c.wrap-in_default.result in
    let y = c.wrap-in_default-2.result in
    let fits_x : FitsSigned w128 x = search rules in
    let fits_y : FitsSigned w128 y = search rules in
    record {
      left = subst (InRange t) (sym (to_z-of_z w128 x fits_x)) c.wrap-in_default.ensures.in_range;
      right = subst (λ (v : ℤ). IsRightOperand c.args.row.now.op t v) (sym (to_z-of_z w128 y fits_y)) (right_operand c.args.row.now.op t y c.wrap-in_default-2.ensures.in_range);
    }
