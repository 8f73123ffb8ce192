-- Places in code, and that they end before the end of all blocks.
use Rattle.std.specs.Prelude.{ℕ, ◌+◌, ◌^◌, ◌≤◌, List, [], ◌∷◌}
use Rattle.ep_cell_ranges.specs.Spots.{Spot}
use Rattle.ep_transfers.specs.Places as spec
use Rattle.ep_transfer_places.specs.declared.places.Places.{Places}

abbrev pub view : Places → spec.Places
view p = record { left = p.left.items; right = p.right.items }

-- so many bytes from each place on have offsets of 32 bits
abbrev pub HaveRoom : (bytes : ℕ) → List Spot → Type 0
HaveRoom n [] = Unit {0}
HaveRoom n (q ∷ qs) = (q.1 + n ≤ 2 ^ 32) × HaveRoom n qs

-- on both sides
pub record BothHaveRoom (bytes : ℕ) (p : spec.Places) : Type 0 where
  pub left : HaveRoom bytes p.left
  pub right : HaveRoom bytes p.right
