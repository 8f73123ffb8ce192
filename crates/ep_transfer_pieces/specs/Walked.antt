-- The pieces of a side, as offsets go by in rising order and leaves with them (this project's rule).
use Rattle.std.specs.Prelude.{ℕ, ◌+◌, Bool, true, false, nat_eq, nat_lt, if◌then◌else◌, List, [], ◌∷◌, Option, Some}
use Rattle.std.specs.Prelude.{None, is_some, drop}
use Rattle.std.specs.List.{list_all}
use Rattle.ep_int.specs.declared.types.Scalar.{Scalar}
use Rattle.ep_int.specs.Types.{size_of}
use Rattle.ep_layout.specs.declared.types.Leaf.{Leaf}
use Rattle.ep_bitslice.specs.declared.cell.Side.{Side as CellSide}
use Rattle.ep_domain.specs.Domain.{Ops}
use Rattle.ep_cells.specs.States.{Known}
use Rattle.ep_cell_ranges.specs.Spots.{Spot}
use Rattle.ep_transfers.specs.Copies as spec
use Rattle.ep_transfers.specs.Places.{moved_spots}
use Rattle.ep_transfer_pieces.specs.declared.walk.Next.{Next}
use Rattle.ep_transfer_pieces.specs.declared.walk.Piece.TheVariants.{Nothing, Whole, Byte}
use Rattle.ep_transfer_pieces.specs.declared.walk.Walk.{Walk}

-- the first of these leaves, if it begins there
abbrev pub first_leaf : List Leaf → (offset : ℕ) → Option Scalar
first_leaf [] o = None
first_leaf (l ∷ ls) o = if nat_eq l.offset o then Some l.what else None

-- each place has a cell of the type
abbrev pub all_exact : {N : Type 0} → Ops N → Known N → CellSide → Scalar → List Spot → Bool
all_exact D k s w qs = list_all (λ (q : Spot). is_some (spec.exact_at D k s w q)) qs

-- outside of leaves, or inside of one that has begun
abbrev pub next_byte : Walk → (offset : ℕ) → Next
next_byte r o = record { piece = if nat_lt o r.until then Nothing else Byte; walk = r }

-- a leaf begins
abbrev pub next_leaf : (exact : Bool) → Walk → (offset : ℕ) → Scalar → (size : ℕ) → Next
next_leaf true r o w z = record { piece = Whole w; walk = record { begun = r.begun + 1; until = o + z } }
next_leaf false r o w z = record { piece = Byte; walk = record { begun = r.begun + 1; until = r.until } }

abbrev pub next_by : {N : Type 0} → Ops N → Known N → CellSide → List Spot → Walk → (offset : ℕ) → Option Scalar
    → Next
next_by D k s ps r o None = next_byte r o
next_by D k s ps r o (Some w) = next_leaf (all_exact D k s w (moved_spots o ps)) r o w (size_of k.model w)

abbrev pub next_piece : {N : Type 0} → Ops N → Known N → CellSide → List Spot → List Leaf → Walk → (offset : ℕ) → Next
next_piece D k s ps ls r o = next_by D k s ps r o (first_leaf (drop r.begun ls) o)
