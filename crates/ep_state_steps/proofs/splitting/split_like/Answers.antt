use Rattle.std.proofs.Common.{sym, ◌∙◌}
use Rattle.ep_state_steps.proofs.Liken.{like_in, like_has}
use Rattle.ep_state_steps.proofs.splitting.split_like.Goals as goal

pub split_one-requires-clause-has : goal.split_one-requires-clause-has
split_one-requires-clause-has g c =
    like_has c.args.side c.args.x.now c.in-Some.y c.args.state.cells (sym c.in-Some.is ∙ c.in_ok-like.ensures)
    c.requires.has

pub split_one-requires-clause-there : goal.split_one-requires-clause-there
split_one-requires-clause-there g c =
    like_in c.args.x.now c.in-Some.y c.args.state.cells (sym c.in-Some.is ∙ c.in_ok-like.ensures)
