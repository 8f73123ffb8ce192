use Rattle.std.proofs.Common.{◌≡◌, drop}
use Rattle.ep_cells.specs.Reshare.{reshared_each, reshared}
use Rattle.ep_cell_changes.proofs.reshare.reshared.Given as goal

-- the places that are left
abbrev pub invariant-loop-p : goal.invariant-loop-p
invariant-loop-p g l = reshared_each g.N.Num.ops (drop l.p-index l.p-items) l.cells.items ≡ reshared g.N.Num.ops
    l.fn.cells.items
