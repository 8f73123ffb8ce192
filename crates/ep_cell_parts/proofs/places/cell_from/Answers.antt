use Rattle.std.proofs.Common.{◌∙◌}
use Rattle.ep_cell_parts.proofs.Staying.{from_window}
use Rattle.ep_cell_parts.proofs.places.cell_from.Goals as goal

pub returns : goal.returns
returns g c = c.cell_in.ensures ∙ from_window c.args.side c.args.block c.args.offset c.number_at-at.result c.args.parts.now c.window.result.now c.number_at-at.ensures c.window.ensures
