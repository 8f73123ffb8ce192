use Rattle.std.proofs.Common.{ap, ◌∙◌}
use Rattle.ep_evaluation.specs.Given.{on}
use Rattle.ep_evaluation.specs.Narrowed.{again}
use Rattle.ep_evaluation.specs.Evaluation.{compare_given, number}
use Rattle.ep_eval_sides.specs.Sides.{faultless}
use Rattle.ep_eval_forms.specs.Running.{side_of}
use Rattle.ep_eval_forms.specs.Limits.{limits_if, number_limits, both_limited}
use Rattle.ep_eval.proofs.evaluate.compared.Goals as goal

pub returns-clause-value : goal.returns-clause-value
returns-clause-value g c =
    c.comparison.ensures
    ∙ ap (λ m. (compare_given g.N.Num.ops c.args.c.now m (faultless c.args.x.value) (faultless c.args.y.value)).pair)
    c.mode.ensures

pub returns-clause-yes : goal.returns-clause-yes
returns-clause-yes g c =
    let s = side_of c.args.side in
    λ w. c.in_ok-when_true.ensures w
    ∙ ap (λ l. both_limited g.N.Num.ops l c.args.x.cell (again c.args.y.cell) c.args.state.now)
    (c.numbers-yes.ensures ∙ ap (λ q. limits_if c.args.sure (number_limits g.N.Num.ops q
    (number g.N.Num.ops (on c.args.x.value s)) (number g.N.Num.ops (on c.args.y.value s)))) c.when_not.ensures)

pub returns-clause-no : goal.returns-clause-no
returns-clause-no g c =
    let s = side_of c.args.side in
    λ w. c.in_ok-when_false.ensures w
    ∙ ap (λ l. both_limited g.N.Num.ops l c.args.x.cell (again c.args.y.cell) c.args.state.now)
    (c.numbers-no.ensures ∙ ap (λ q. limits_if c.args.sure (number_limits g.N.Num.ops q
    (number g.N.Num.ops (on c.args.x.value s)) (number g.N.Num.ops (on c.args.y.value s)))) c.when_not-2.ensures)
