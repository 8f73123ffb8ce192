use Rattle.std.proofs.Common.{ap, ◌∙◌}
use Rattle.ep_core.specs.View.{expr_view}
use Rattle.ep_core.specs.WellFormed.{int_type_of}
use Rattle.ep_evaluation.specs.Evaluation.{convert_given}
use Rattle.ep_eval_sides.specs.Sides.{faultless}
use Rattle.ep_eval_forms.proofs.cells.converted_operand.Goals as goal

pub returns-clause-value : goal.returns-clause-value
returns-clause-value g c =
    c.converted-value.ensures
    ∙ ap (λ m. (convert_given g.N.Num.ops (int_type_of (expr_view c.args.a.now)) c.args.t m (faultless c.args.x.value)).pair)
    c.mode.ensures
