use Rattle.std.proofs.Common.{◌∙◌}
use Rattle.ep_bicells.proofs.Looking.{partly_in_window}
use Rattle.ep_bicells.proofs.cells.is_some_partly_in.Goals as goal

pub returns : goal.returns
returns g c =
    c.is_some_partly.ensures ∙ partly_in_window c.args.model c.args.p.now c.reach-from.result.0 c.reach-from.result.1 c.args.parts.now c.window.result.now (record { first = c.reach-from.ensures.from; end = c.reach-from.ensures.last }) c.requires.cells c.window.ensures
