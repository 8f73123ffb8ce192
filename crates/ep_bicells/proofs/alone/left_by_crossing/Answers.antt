use Rattle.std.proofs.Common.{◌∙◌}
use Rattle.ep_cells.specs.Cells.{each_becomes}
use Rattle.ep_reads.specs.Unify.{left_by_crossing}
use Rattle.ep_bicells.proofs.Fates.{crossed_alike}
use Rattle.ep_bicells.proofs.alone.left_by_crossing.Goals as goal

pub returns : goal.returns
returns g c =
    c.in_ok-left.ensures
    ∙ crossed_alike c.args.x.now c.side_of_crossed.result (each_becomes (left_by_crossing c.args.x.now) c.args.cells.now)
    c.side_of_crossed.ensures
