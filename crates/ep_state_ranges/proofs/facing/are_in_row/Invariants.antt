use Rattle.std.proofs.Common.{◌≡◌, [], map, drop}
use Rattle.ep_cells.specs.Cells.{each_becomes}
use Rattle.ep_state_ranges.specs.InRow.{not_in_row}
use Rattle.ep_state_ranges.proofs.Whole.{others_turn}
use Rattle.ep_state_ranges.proofs.facing.are_in_row.Given as goal

abbrev pub invariant-loop-x : goal.invariant-loop-x
invariant-loop-x g l =
    each_becomes (not_in_row l.model l.c l.p) (map (λ r. r.now) (drop l.x-index l.cells)) ≡ []
    → each_becomes (not_in_row l.model l.c l.p) (map (λ r. r.now) l.cells) ≡ []
