use Rattle.std.proofs.Common.{◌∙◌}
use Rattle.ep_bicells.proofs.Fates.{crossed_alike}
use Rattle.ep_bicells.proofs.alone.all_reformed_by_crossing.Goals as goal

pub returns : goal.returns
returns g c =
    c.in_ok-all.ensures
    ∙ crossed_alike c.args.x.now c.side_of_crossed.result c.args.cells.now c.side_of_crossed.ensures
