-- Places further on have as much less room.
use Rattle.std.proofs.Common.{ℕ, ◌+◌, ◌≤◌, List, [], ◌∷◌, arith}
use Rattle.ep_cell_ranges.specs.Spots.{Spot}
use Rattle.ep_transfers.specs.Places.{Places, moved_spots, moved_places}
use Rattle.ep_transfer_places.specs.Room.{HaveRoom, BothHaveRoom}

pub less_room : (n k : ℕ) (qs : List Spot) → k ≤ n → HaveRoom n qs → HaveRoom k qs
less_room n k [] e h = tt
less_room n k (q ∷ qs) e h = (let i = h.0 in omega (arith, i, e), less_room n k qs e h.1)

pub moved_room : (k n : ℕ) (qs : List Spot) → HaveRoom (k + n) qs → HaveRoom n (moved_spots k qs)
moved_room k n [] h = tt
moved_room k n (q ∷ qs) h = (let i = h.0 in omega (arith, i), moved_room k n qs h.1)

pub less_both : (n k : ℕ) (p : Places) → k ≤ n → BothHaveRoom n p → BothHaveRoom k p
less_both n k p e h = record { left = less_room n k p.left e h.left; right = less_room n k p.right e h.right }

pub moved_both : (k n : ℕ) (p : Places) → BothHaveRoom (k + n) p → BothHaveRoom n (moved_places k p)
moved_both k n p h = record { left = moved_room k n p.left h.left; right = moved_room k n p.right h.right }
