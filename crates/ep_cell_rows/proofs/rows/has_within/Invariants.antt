use Rattle.std.proofs.Common.{◌≡◌, false, drop}
use Rattle.std.specs.Option.{option_map_or}
use Rattle.ep_cells.specs.Both.{is_cell_within, cell_like}
use Rattle.ep_cell_rows.proofs.rows.has_within.Given as goal

abbrev pub invariant-loop-x : goal.invariant-loop-x
invariant-loop-x g l = option_map_or (λ x. is_cell_within g.N.Num.ops x l.y) (cell_like l.y (drop l.x-index l.xs))
    false ≡ option_map_or (λ x. is_cell_within g.N.Num.ops x l.y) (cell_like l.y l.xs) false
