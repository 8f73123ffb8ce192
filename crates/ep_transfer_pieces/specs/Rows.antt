-- Cells of one side without forms, each behind the one before it, that are written one after the other (this project's
-- rules, after Miné 2006).
use Rattle.std.specs.Prelude.{◌≡◌, ℕ, ◌+◌, Bool, ◌&&◌, nat_eq, List, [], ◌∷◌, None}
use Rattle.ep_int.specs.declared.types.Model.{Model}
use Rattle.ep_int.specs.Types.{size_of}
use Rattle.ep_bitslice.specs.declared.cell.Side.{Side as CellSide}
use Rattle.ep_domain.specs.Domain.{Ops}
use Rattle.ep_cells.specs.declared.cell.Cell.{Cell}
use Rattle.ep_cells.specs.Cells.{place_of, is_same_side}
use Rattle.ep_cells.specs.States.{Known, IsCell}
use Rattle.ep_cell_ranges.specs.Ranges.{replaced}
use Rattle.ep_cell_ranges.specs.Spots.{Spot}
use Rattle.ep_transfers.specs.Places.{Places}
use Rattle.ep_transfer_pieces.specs.declared.puts.Put.{Put}
use Rattle.ep_transfer_pieces.specs.declared.rows.Pending.{Pending}
use Rattle.ep_transfer_pieces.specs.Puts.{after_put}

-- a cell without a form that begins there
pub record StandsAt {N : Type 0} (d : Model) (s : CellSide) (b a : ℕ) (c : Cell N) : Type 0 where
  pub cell : IsCell d c
  pub side : c.side ≡ s
  pub block : c.block ≡ b
  pub offset : c.offset ≡ a
  pub form : c.form ≡ None

abbrev pub IsRow : {N : Type 0} → Model → CellSide → (b a : ℕ) → List (Cell N) → Type 0
IsRow d s b a [] = Unit {0}
IsRow d s b a (c ∷ cs) = StandsAt d s b a c × IsRow d s b (a + size_of d c.what) cs

abbrev pub row_bytes : {N : Type 0} → Model → List (Cell N) → ℕ
row_bytes d [] = 0
row_bytes d (c ∷ cs) = size_of d c.what + row_bytes d cs

-- one after the other
abbrev pub each_written : {N : Type 0} → Ops N → Model → List (Cell N) → Known N → Known N
each_written D d [] k = k
each_written D d (c ∷ cs) k = each_written D d cs (replaced D (place_of d c) (c ∷ []) k)

-- a cell without a form
pub record CanGo {N : Type 0} (d : Model) (c : Cell N) : Type 0 where
  pub cell : IsCell d c
  pub form : c.form ≡ None

-- ---- what is known, and cells of a row that are still to be written

abbrev pub reached : {N : Type 0} → Ops N → Pending N → Known N
reached D p = each_written D p.state.model p.cells.items p.state

pub record IsReady {N : Type 0} (p : Pending N) : Type 0 where
  pub row : IsRow p.state.model p.side p.block p.start p.cells.items
  pub bytes : p.bytes ≡ row_bytes p.state.model p.cells.items

-- a cell begins where the last one ends
abbrev pub goes_on : {N : Type 0} → Pending N → CellSide → Spot → Bool
goes_on p s q = is_same_side p.side s && (nat_eq p.block q.0 && nat_eq (p.start + p.bytes) q.1)

-- a cell more is to be written
pub record Goes {N : Type 0} (D : Ops N) (c : Cell N) (old new : Pending N) : Type 0 where
  pub value : reached D new ≡ each_written D old.state.model (c ∷ []) (reached D old)
  pub ready : IsReady new
  pub model : new.state.model ≡ old.state.model

-- a write more
pub record Follows {N : Type 0} (D : Ops N) (joint : Bool) (to : Places) (put : Put N) (old new : Pending N) : Type 0
  where
    pub value : reached D new ≡ after_put D joint to put (reached D old)
    pub ready : IsReady new
    pub model : new.state.model ≡ old.state.model
