use Rattle.std.proofs.Common.{ap, ◌∙◌}
use Rattle.ep_evaluation.specs.Evaluation.{not_given}
use Rattle.ep_eval_sides.specs.Sides.{faultless}
use Rattle.ep_eval_forms.proofs.tested.opposite.Goals as goal

pub returns-clause-value : goal.returns-clause-value
returns-clause-value g c =
    c.negation.ensures ∙ ap (λ m. (not_given g.N.Num.ops m (faultless c.args.x.value)).pair) c.mode.ensures
