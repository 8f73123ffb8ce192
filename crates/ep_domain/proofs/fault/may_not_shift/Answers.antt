use Rattle.std.proofs.Common.{◌≡◌, true, rules, FitsSigned, ◌∙◌, sym}
use mir.Syntax.{w128}
use Rattle.std.proofs.lemmas.Int.{to_z-of_z}
use Rattle.ep_int.specs.Types.{is_signed}
use Rattle.ep_domain.proofs.FaultCode.{power_fits, not_negative, shift_is, above_is}
use Rattle.ep_domain.proofs.fault.may_not_shift.Goals as goal

pub overflow_mul-result : goal.overflow_mul-result
overflow_mul-result c =
    let x1 : FitsSigned w128 c.args.x.1 = search rules in
    let p : FitsSigned w128 c.power_of_two.result = search rules in
    let s : is_signed c.args.t ≡ true = sym c.is_signed.ensures ∙ c.if-is_signed.true in
    simp to_z-of_z (power_fits c.args.t c.args.x.1 c.power_of_two.result c.nearest_amount.result s c.requires c.nearest_amount.ensures.within c.power_of_two.ensures)

pub returns-else-x-lt0 : goal.returns-else-x-lt0
returns-else-x-lt0 c =
    let x0 : FitsSigned w128 c.args.x.0 = search rules in
    let x1 : FitsSigned w128 c.args.x.1 = search rules in
    let y1 : FitsSigned w128 c.args.y.1 = search rules in
    let p : FitsSigned w128 c.power_of_two.result = search rules in
    let g : FitsSigned w128 c.greatest.result = search rules in
    let s : is_signed c.args.t ≡ true = sym c.is_signed.ensures ∙ c.if-is_signed.true in
    let f = power_fits c.args.t c.args.x.1 c.power_of_two.result c.nearest_amount.result s c.requires c.nearest_amount.ensures.within c.power_of_two.ensures in
    let n = simp to_z-of_z at c.nearest_amount.ensures.value in
    simp to_z-of_z (shift_is c.args.t c.args.x c.args.y _ s (not_negative c.args.x.0 x0 c.if-x-lt0.false) (above_is c.args.t c.args.x c.greatest.result c.power_of_two.result c.args.y.1 c.nearest_amount.result c.greatest.ensures c.power_of_two.ensures n))
