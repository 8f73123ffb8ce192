use Rattle.std.proofs.Common.{◌++◌, ap, ◌∙◌}
use Rattle.ep_evaluation.specs.Evaluation.{load_given}
use Rattle.ep_eval_sides.specs.Sides.{faultless}
use Rattle.ep_eval_forms.proofs.cells.loaded.Goals as goal

pub returns-clause-value : goal.returns-clause-value
returns-clause-value g c =
    c.in_ok-value.ensures.value
    ∙ ap (λ m. (load_given g.N.Num.ops c.args.sizes.now c.args.what m c.args.state.now (faultless c.args.x.now)).pair)
    c.mode.ensures

pub returns-clause-faults : goal.returns-clause-faults
returns-clause-faults g c =
    c.in_ok-value.ensures.faults
    ∙ ap (λ m. c.args.faults.now.items
    ++ (load_given g.N.Num.ops c.args.sizes.now c.args.what m c.args.state.now (faultless c.args.x.now)).faults)
    c.mode.ensures
