use Rattle.std.proofs.Common.{rules, FitsSigned, ◌∙◌, sym, ap}
use mir.Syntax.{w128}
use Rattle.std.proofs.lemmas.Int.{to_z-of_z}
use Rattle.ep_int.specs.Types.{least_of}
use Rattle.ep_interval_laws.specs.Interval.{overlap}
use Rattle.ep_intervals.proofs.results.right_operands.Goals as goal

pub returns-else-is_shift : goal.returns-else-is_shift
returns-else-is_shift c =
    let f : FitsSigned w128 c.least.result = search rules in
    let g : FitsSigned w128 c.greatest.result = search rules in
    let d = simp to_z-of_z at c.overlap.ensures in
    let e = c.is_shift.ensures in let h = c.if-is_shift.false in
    rw (sym e ∙ h) (d ∙ ap (λ z. overlap c.args.y.now z c.greatest.result) c.least.ensures ∙ ap (overlap c.args.y.now (least_of c.args.t)) c.greatest.ensures)
