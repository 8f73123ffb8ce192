use Rattle.std.proofs.Common.{sym, ◌∙◌}
use Rattle.ep_state_steps.proofs.Liken.{like_in}
use Rattle.ep_state_steps.proofs.crossing.cross_like.Goals as goal

pub cross-requires : goal.cross-requires
cross-requires g c = like_in c.args.x.now c.in-Some.y c.args.state.cells (sym c.in-Some.is ∙ c.in_ok-like.ensures)
