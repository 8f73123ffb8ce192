use Rattle.std.proofs.Common.{◌≡◌, vec_len}
use Rattle.ep_cells.specs.Cells.{put_all}
use Rattle.ep_cell_rows.proofs.rows.put_all.Given as goal

abbrev pub invariant-loop-c : goal.invariant-loop-c
invariant-loop-c g l = put_all l.more.items l.cells.items ≡ put_all l.fn.more.items l.fn.cells.items

abbrev pub decreases-loop-c : goal.decreases-loop-c
decreases-loop-c g l = vec_len l.more
