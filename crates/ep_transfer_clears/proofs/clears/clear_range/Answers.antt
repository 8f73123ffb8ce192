use Rattle.std.proofs.Common.{sym, subst}
use Rattle.ep_cell_ranges.specs.Moves.{place_at}
use Rattle.ep_cell_ranges.specs.Sound.{AreNew}
use Rattle.ep_transfer_clears.proofs.AtOnce.{cells_new}
use Rattle.ep_transfer_clears.proofs.clears.clear_range.Goals as goal

pub replace-requires : goal.replace-requires
replace-requires g c =
    subst (AreNew c.args.state.model (place_at c.args.at.0 c.args.at.1 c.args.bytes) c.args.state.cells)
    (sym c.in_ok-new.ensures)
    (cells_new g.N.Num.ops c.args.state c.args.at.0 c.args.at.1 c.args.bytes c.args.leaves.now c.requires.room
    c.requires.leaves)
