use Rattle.std.proofs.Common.{true, ap, ◌∙◌}
use Rattle.ep_evaluation.specs.Evaluation.{short_given}
use Rattle.ep_eval_sides.specs.Sides.{faultless, faultless_if}
use Rattle.ep_eval_forms.proofs.tested.conjunction.Goals as goal

pub returns-clause-value : goal.returns-clause-value
returns-clause-value g c =
    c.short.ensures
    ∙ ap (λ m. (short_given g.N.Num.ops true m (faultless c.args.x.now) (faultless_if c.args.y.value)).pair)
    c.mode.ensures
