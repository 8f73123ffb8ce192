use Rattle.std.proofs.Common.{ap, ◌∙◌}
use Rattle.ep_eval_places.proofs.Hulls.{hull_with, hulls}
use Rattle.ep_eval_places.proofs.places.offsets_range.Goals as goal

pub loop-t-init : goal.loop-t-init
loop-t-init g c =
    ap (λ r. hull_with g.N.Num.ops r c.args.rest.now) c.range-shown.ensures ∙ hulls g.N.Num.ops c.args.first.now c.args.rest.now
