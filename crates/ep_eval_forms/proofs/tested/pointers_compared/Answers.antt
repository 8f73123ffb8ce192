use Rattle.std.proofs.Common.{◌++◌, ap, ◌∙◌}
use Rattle.ep_evaluation.specs.Evaluation.{pointers_given}
use Rattle.ep_eval_sides.specs.Sides.{faultless}
use Rattle.ep_eval_forms.proofs.tested.pointers_compared.Goals as goal

pub returns-clause-value : goal.returns-clause-value
returns-clause-value g c =
    c.in_ok-value.ensures.value
    ∙ ap (λ m. (pointers_given g.N.Num.ops c.args.c m (faultless c.args.x.value) (faultless c.args.y.value)).pair)
    c.mode.ensures

pub returns-clause-faults : goal.returns-clause-faults
returns-clause-faults g c =
    c.in_ok-value.ensures.faults
    ∙ ap (λ m. c.args.faults.now.items
    ++ (pointers_given g.N.Num.ops c.args.c m (faultless c.args.x.value) (faultless c.args.y.value)).faults) c.mode.ensures
