use Rattle.std.proofs.Common.{◌∙◌}
use Rattle.ep_core.proofs.Basics.{sizes_of_view}
use Rattle.ep_concrete.proofs.start.sizes_of.Goals as goal

pub returns-in-Ok : goal.returns-in-Ok
returns-in-Ok c = c.in-Ok.ensures ∙ sizes_of_view c.args.blocks.now
