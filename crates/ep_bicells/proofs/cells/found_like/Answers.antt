use Rattle.std.proofs.Common.{◌∙◌}
use Rattle.ep_bicells.proofs.Uniting.{like_window}
use Rattle.ep_bicells.proofs.cells.found_like.Goals as goal

pub returns : goal.returns
returns g c = c.like_in.ensures ∙ like_window c.args.y.now c.number_at-at.result c.args.parts.now c.window.result.now c.number_at-at.ensures c.window.ensures
