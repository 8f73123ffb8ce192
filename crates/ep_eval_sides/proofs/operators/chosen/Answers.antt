use Rattle.std.proofs.Common.{}
use Rattle.ep_eval_sides.specs.Sides.{faultless_if}
use Rattle.ep_eval_sides.proofs.Picked.{chosen_step}
use Rattle.ep_eval_sides.proofs.operators.chosen.Goals as goal

pub returns : goal.returns
returns g c =
    chosen_step g.N.Num.ops c.args.mode (faultless_if c.args.y) (faultless_if c.args.z) c.are_same_later-equal.result _
    c.later_pair-y.result.left c.later_pair-y.result.right c.later_pair-z.result.left c.later_pair-z.result.right
    c.in_ok-left.left c.in_ok-right.right c.pair_on.result c.later_pair-y.ensures.left c.later_pair-y.ensures.right
    c.later_pair-z.ensures.left c.later_pair-z.ensures.right c.in_ok-left.ensures c.in_ok-right.ensures
    c.are_same_later-equal.ensures c.pair_on.ensures
