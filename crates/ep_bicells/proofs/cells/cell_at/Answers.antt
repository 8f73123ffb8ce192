use Rattle.std.proofs.Common.{◌≡◌, ◌-◌, ◌∙◌, arith}
use Rattle.ep_shared_parts.specs.Mentions.{number_at}
use Rattle.ep_bicells.proofs.Looking.{cell_in_window}
use Rattle.ep_bicells.proofs.cells.cell_at.Goals as goal

pub returns : goal.returns
returns g c =
    let from : c.number_at-from.result ≡ number_at c.args.block (c.args.byte - 7) = omega (arith, c.number_at-from.ensures, c.saturating_sub.ensures) in
    c.cell_in.ensures ∙ cell_in_window c.args.model c.args.side c.args.block c.args.byte c.number_at-from.result c.number_at.result c.args.parts.now c.window.result.now from c.number_at.ensures c.window.ensures
