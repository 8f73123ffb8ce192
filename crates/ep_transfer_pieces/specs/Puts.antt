-- What is to be written at offsets of an aggregate, one after the other (this project's rules, after Miné 2006).
use Rattle.std.specs.Prelude.{◌≡◌, ℕ, ◌+◌, ◌≤◌, Bool, true, false, ◌&&◌, List, [], ◌∷◌, None}
use Rattle.ep_int.specs.declared.types.Model.{Model}
use Rattle.ep_int.specs.declared.types.Scalar.{Scalar}
use Rattle.ep_int.specs.Types.{size_of}
use Rattle.ep_bitslice.specs.declared.cell.Side.{Side as CellSide}
use Rattle.ep_domain.specs.Domain.{Ops}
use Rattle.ep_cells.specs.States.{Known, IsOfSort}
use Rattle.ep_cells.specs.Cells.{is_same_scalar}
use Rattle.ep_cell_ranges.specs.Spots.{Spot}
use Rattle.ep_core.specs.Runs.{Side, left, right}
use Rattle.ep_equalities.specs.declared.pair.Mode.{Mode}
use Rattle.ep_reads.specs.declared.read.ReadValue.{ReadValue}
use Rattle.ep_transfers.specs.Copies as spec
use Rattle.ep_transfers.specs.Places.{Places, moved_places}
use Rattle.ep_transfers.specs.Writes.{Item, write_now}
use Rattle.ep_transfer_pieces.specs.declared.puts.Put.{Put}
use Rattle.ep_transfer_pieces.specs.declared.sources.Sources.{Sources}
use Rattle.ep_transfer_pieces.specs.declared.walk.Piece.{Piece}
use Rattle.ep_transfer_pieces.specs.declared.walk.Piece.TheVariants.{Nothing, Whole, Byte}
use Rattle.ep_transfer_pieces.specs.Pieces.{piece_view}
use Rattle.ep_transfer_writes.specs.Waiting.{item_view}

module _ {N : Type 0} (D : Ops N) (joint : Bool) (to : Places) where
  abbrev pub after_put : Put N → Known N → Known N
  after_put p j = write_now D p.mode joint p.what (moved_places p.offset to) (item_view p.item) j

  abbrev pub after_puts : List (Put N) → Known N → Known N
  after_puts [] j = j
  after_puts (p ∷ ps) j = after_puts ps (after_put p j)

-- The values are of its type, it has no forms, and it ends in so many bytes.
pub record FitsPut {N : Type 0} (d : Model) (bytes : ℕ) (p : Put N) : Type 0 where
  pub left : IsOfSort p.what p.item.pair.left.value
  pub right : IsOfSort p.what p.item.pair.right.value
  pub left_form : p.item.pair.left.form ≡ None
  pub right_form : p.item.pair.right.form ≡ None
  pub room : p.offset + size_of d p.what ≤ bytes

abbrev pub FitPuts : {N : Type 0} → Model → (bytes : ℕ) → List (Put N) → Type 0
FitPuts d n [] = Unit {0}
FitPuts d n (p ∷ ps) = FitsPut d n p × FitPuts d n ps

-- ---- how they are made

-- there is nothing to be written
abbrev pub is_nothing : Piece → Bool
is_nothing Nothing = true
is_nothing (Whole w) = false
is_nothing Byte = false

-- This is read for a piece at these places, and, if it is something, this is whether a Shared cell has it whole at each
-- of them.
pub record AreSources {N : Type 0} (D : Ops N) (k : Known N) (s : CellSide) (c : Piece) (qs : List Spot)
    (r : Sources N)
    : Type 0 where
  pub reads : r.reads.items ≡ spec.sources_of D k s (piece_view D c) qs
  pub shared : is_nothing c ≡ false
      → r.shared ≡ spec.are_shared_whole D k s (spec.scalar_of_piece D (piece_view D c)) qs

-- is this write
pub record IsPut {N : Type 0} (m : Mode) (o : ℕ) (w : Scalar) (i : Item N) (p : Put N) : Type 0 where
  pub mode : p.mode ≡ m
  pub offset : p.offset ≡ o
  pub what : p.what ≡ w
  pub item : item_view p.item ≡ i

-- one side's
abbrev pub alone_item : {N : Type 0} → Ops N → Side → List (ReadValue N) → Item N
alone_item D left rs = spec.piece_item D false rs [] false
alone_item D right rs = spec.piece_item D false [] rs false

-- that of both sides
abbrev pub together_item : {N : Type 0} → (D : Ops N) → (joint : Bool) → Known N → (from : Places) → (offset : ℕ)
    → spec.Piece D → Item N
together_item D joint k from o c =
    spec.piece_item D joint (spec.sources_on D joint k from from [] left o c)
    (spec.sources_on D joint k from from [] right o c)
    (spec.shared_on D joint k from from [] left o c && spec.shared_on D joint k from from [] right o c)

-- both sides have the same piece
abbrev pub are_alike : Piece → Piece → Bool
are_alike Nothing q = false
are_alike (Whole w) Nothing = false
are_alike (Whole w) (Whole v) = is_same_scalar w v
are_alike (Whole w) Byte = false
are_alike Byte Nothing = false
are_alike Byte (Whole v) = false
are_alike Byte Byte = true

-- Writes are added that do this; they fit in as many bytes as this can.
pub record Adds {N : Type 0} (D : Ops N) (joint : Bool) (d : Model) (old new : List (Put N)) (go : Places → Known N
    → Known N) (can : ℕ → Type 0) : Type 0
  where
    pub plans : (to : Places) (j : Known N) → after_puts D joint to new j ≡ go to (after_puts D joint to old j)
    pub fits : (n : ℕ) → can n → FitPuts d n old → FitPuts d n new
