use Rattle.std.proofs.Common.{◌≡◌, ◌≤◌, ◌-◌, map, drop, length}
use Rattle.ep_state_looks.specs.Looks.{from_cell}
use Rattle.ep_state_looks.proofs.beside.from_cell.Given as goal

abbrev pub invariant-loop-at : goal.invariant-loop-at
invariant-loop-at g l =
    (from_cell l.x (map (λ r. r.now) (drop l.at l.cells)) ≡ from_cell l.x (map (λ r. r.now) (drop l.fn.at l.cells)))
    × (l.at ≤ length l.cells)

abbrev pub decreases-loop-at : goal.decreases-loop-at
decreases-loop-at g l = length l.cells - l.at
