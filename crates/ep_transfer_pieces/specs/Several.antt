-- Shared cells, each behind the one before it, that may be written at each of several places (this project's rules,
-- after Miné 2006).
use Rattle.std.specs.Prelude.{◌≡◌, ℕ, ◌+◌, ◌≤◌, Bool, true, false, List, [], ◌∷◌}
use Rattle.ep_int.specs.declared.types.Model.{Model}
use Rattle.ep_int.specs.Types.{size_of}
use Rattle.ep_bitslice.specs.declared.cell.Side.TheVariants.{Shared}
use Rattle.ep_domain.specs.Domain.{Ops}
use Rattle.ep_cells.specs.declared.cell.Cell.{Cell}
use Rattle.ep_cells.specs.States.{Known}
use Rattle.ep_cell_ranges.specs.Moves.{weakened_each}
use Rattle.ep_cell_ranges.specs.Spots.{Spot, all_spots}
use Rattle.ep_equalities.specs.declared.pair.Mode.{Mode}
use Rattle.ep_equalities.specs.declared.pair.Mode.TheVariants.{Both, Left, Right}
use Rattle.ep_state_rows.specs.Rows.{further, each_weakened, IsRow, row_bytes, FitAt, AreSpaced}
use Rattle.ep_transfers.specs.Places.{Places}
use Rattle.ep_transfer_places.specs.Room.{HaveRoom}
use Rattle.ep_transfer_pieces.specs.declared.puts.Put.{Put}
use Rattle.ep_transfer_pieces.specs.declared.several.Weakly.{Weakly}
use Rattle.ep_transfer_pieces.specs.Puts.{after_put}

abbrev pub are_many : List Spot → Bool
are_many [] = false
are_many (q ∷ []) = false
are_many (q ∷ r ∷ qs) = true

-- Of the same address on both sides, these are all places, of which there are several; each has so many bytes to the
-- next one.
pub record AreSeveral (joint : Bool) (to : Places) (bytes : ℕ) (qs : List Spot) : Type 0 where
  pub same_to : joint ≡ true
  pub many : are_many to.left ≡ true
  pub all : qs ≡ all_spots to.left to.right
  pub spaced : AreSpaced bytes qs
  pub room : HaveRoom bytes qs

-- both sides write it, and it surely is the same
abbrev pub is_together_by : Mode → (same : Bool) → Bool
is_together_by Both s = s
is_together_by Left s = false
is_together_by Right s = false

abbrev pub is_together : {N : Type 0} → Put N → Bool
is_together p = is_together_by p.mode p.item.same

-- ---- what is known, and cells of a row that are still to be written

-- a Shared cell that begins so far behind the places, and ends within so many bytes
pub record StandsAt {N : Type 0} (d : Model) (n : ℕ) (qs : List Spot) (a : ℕ) (c : Cell N) : Type 0 where
  pub side : c.side ≡ Shared
  pub offset : c.offset ≡ a
  pub within : a + size_of d c.what ≤ n
  pub fits : FitAt d (c ∷ []) qs

abbrev pub reached : {N : Type 0} → Ops N → List Spot → Weakly N → Known N
reached D qs p = each_weakened D qs p.cells.items p.state

pub record IsReady {N : Type 0} (n : ℕ) (qs : List Spot) (p : Weakly N) : Type 0 where
  pub row : IsRow p.state.model p.start p.cells.items
  pub bytes : p.bytes ≡ row_bytes p.state.model p.cells.items
  pub within : p.start + p.bytes ≤ n
  pub fits : FitAt p.state.model p.cells.items qs

-- a cell more is to be written
pub record Goes {N : Type 0} (D : Ops N) (n : ℕ) (qs : List Spot) (c : Cell N) (old new : Weakly N) : Type 0 where
  pub value : reached D qs new ≡ weakened_each D (further c) true qs (reached D qs old)
  pub ready : IsReady n qs new
  pub model : new.state.model ≡ old.state.model

-- a write more
pub record Follows {N : Type 0} (D : Ops N) (joint : Bool) (to : Places) (n : ℕ) (qs : List Spot) (put : Put N)
    (old new : Weakly N)
    : Type 0 where
  pub value : reached D qs new ≡ after_put D joint to put (reached D qs old)
  pub ready : IsReady n qs new
  pub model : new.state.model ≡ old.state.model
