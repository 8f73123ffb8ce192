use Rattle.std.proofs.Common.{◌≡◌, rules, FitsSigned, ◌∙◌, sym, ap}
use mir.Syntax.{w128}
use Rattle.std.proofs.lemmas.Int.{to_z-of_z}
use Rattle.ep_int.specs.Types.{least_of, greatest_of}
use Rattle.ep_interval_laws.specs.Interval.{overlap}
use Rattle.ep_intervals.proofs.Machine.{left_in_type, right_in_type, value_is, value_none}
use Rattle.std.proofs.Common.{Some}
use Rattle.ep_intervals.proofs.results.value.Goals as goal

pub returns-in_err-right : goal.returns-in_err-right
returns-in_err-right c =
    let f : FitsSigned w128 c.least.result = search rules in
    let g : FitsSigned w128 c.greatest.result = search rules in
    let d = simp to_z-of_z at c.overlap.ensures in
    let h : overlap c.args.x.now (least_of c.args.t) (greatest_of c.args.t) ≡ Some c.in_ok-left.left =
    sym (d ∙ ap (λ z. overlap c.args.x.now z c.greatest.result) c.least.ensures ∙ ap (overlap c.args.x.now (least_of c.args.t)) c.greatest.ensures) ∙ c.in_ok-left.was in
    value_none c.args.op c.args.t c.args.x.now c.args.y.now c.in_ok-left.left c.from_residual-in_err-right.result h (sym c.right_operands.ensures ∙ c.in_err-right.was) c.from_residual-in_err-right.ensures

pub results-requires-clause-left : goal.results-requires-clause-left
results-requires-clause-left c =
    let f : FitsSigned w128 c.least.result = search rules in
    let g : FitsSigned w128 c.greatest.result = search rules in
    let d = simp to_z-of_z at c.overlap.ensures in
    let h : overlap c.args.x.now (least_of c.args.t) (greatest_of c.args.t) ≡ Some c.in_ok-left.left =
    sym (d ∙ ap (λ z. overlap c.args.x.now z c.greatest.result) c.least.ensures ∙ ap (overlap c.args.x.now (least_of c.args.t)) c.greatest.ensures) ∙ c.in_ok-left.was in
    left_in_type c.args.x.now c.in_ok-left.left c.args.t h

pub results-requires-clause-right : goal.results-requires-clause-right
results-requires-clause-right c =
    let f : FitsSigned w128 c.least.result = search rules in
    let g : FitsSigned w128 c.greatest.result = search rules in
    let d = simp to_z-of_z at c.overlap.ensures in
    let h : overlap c.args.x.now (least_of c.args.t) (greatest_of c.args.t) ≡ Some c.in_ok-left.left =
    sym (d ∙ ap (λ z. overlap c.args.x.now z c.greatest.result) c.least.ensures ∙ ap (overlap c.args.x.now (least_of c.args.t)) c.greatest.ensures) ∙ c.in_ok-left.was in
    right_in_type c.args.op c.args.y.now c.in_ok-right.right c.args.t (sym c.right_operands.ensures ∙ c.in_ok-right.was)

pub returns : goal.returns
returns c =
    let f : FitsSigned w128 c.least.result = search rules in
    let g : FitsSigned w128 c.greatest.result = search rules in
    let d = simp to_z-of_z at c.overlap.ensures in
    let h : overlap c.args.x.now (least_of c.args.t) (greatest_of c.args.t) ≡ Some c.in_ok-left.left =
    sym (d ∙ ap (λ z. overlap c.args.x.now z c.greatest.result) c.least.ensures ∙ ap (overlap c.args.x.now (least_of c.args.t)) c.greatest.ensures) ∙ c.in_ok-left.was in
    value_is c.args.op c.args.t c.args.x.now c.args.y.now c.in_ok-left.left c.in_ok-right.right c.results.result h (sym c.right_operands.ensures ∙ c.in_ok-right.was) c.results.ensures
