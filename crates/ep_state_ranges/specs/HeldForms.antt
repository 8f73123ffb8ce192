-- Several places that may be written, and forms that are held meanwhile outside of what is known (this project's rules,
-- after Miné 2006).
use Rattle.std.specs.Prelude.{ℕ, List, [], ◌∷◌}
use Rattle.ep_int.specs.declared.types.Model.{Model}
use Rattle.ep_bitslice.specs.declared.cell.Side.{Side}
use Rattle.ep_cells.specs.declared.cell.Cell.{Cell}
use Rattle.ep_cells.specs.Forms.{form_after}
use Rattle.ep_cells.specs.Weaken.{fate_by_weak_write}
use Rattle.ep_cells.specs.States.{Fits}
use Rattle.ep_cell_ranges.specs.Moves.{place_at}
use Rattle.ep_cell_ranges.specs.Ranges.{Reform}
use Rattle.ep_cell_ranges.specs.Spots.{Spot}

-- the cell at another place
abbrev pub at_spot : {N : Type 0} → Cell N → Spot → Cell N
at_spot c q = record c { block = q.0; offset = q.1 }

-- at each of these places it fits, but for its form
abbrev pub FitsAtEach : {N : Type 0} → Model → Cell N → List Spot → Type 0
FitsAtEach d c [] = Unit {0}
FitsAtEach d c (q ∷ qs) = Fits d (at_spot c q) × FitsAtEach d c qs

-- what becomes of a form where each of several places may have been written
abbrev pub form_by_blur_each : Side → (bytes : ℕ) → List Spot → Reform
form_by_blur_each s n [] f = f
form_by_blur_each s n (q ∷ qs) f = form_by_blur_each s n qs (form_after (fate_by_weak_write (place_at s q n)) f)
