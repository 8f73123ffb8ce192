use Rattle.ep_bytes.proofs.Breaks.{broken_beside}
use Rattle.ep_bytes.proofs.cells.Cells.break_beside.Goals as goal

pub returns : goal.returns
returns c =
    broken_beside c.args.model c.args.self.now c.cut.new.self c.cut-2.new.self c.args.place.now c.args.size
    c.saturating_sub-low.result c.min-high.result c.len-total.ensures.parts c.requires.fits c.saturating_sub-low.ensures
    c.min-high.ensures c.cut.ensures c.cut-2.ensures
