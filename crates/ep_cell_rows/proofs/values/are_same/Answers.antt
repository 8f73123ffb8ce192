use Rattle.ep_cell_rows.proofs.Same.{same_is}
use Rattle.ep_cell_rows.proofs.values.are_same.Goals as goal

pub returns : goal.returns
returns c = same_is c.is_same.result c.args.f.now c.args.g.now c.is_same.ensures
