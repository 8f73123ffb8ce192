-- What it means that operations on cells are sound: memories of which a state holds, changed as the machines change
-- them, are memories of which the new state holds.
use Rattle.std.specs.Prelude.{◌≡◌, ℕ, Bool, true, false, List, Option, IfSome}
use Rattle.ep_int.specs.declared.types.Order.{Order}
use Rattle.ep_int.specs.declared.types.Model.{Model}
use Rattle.ep_int.specs.Types.{size_of}
use Rattle.ep_int.specs.Memory.{Memory, Value as Datum}
use Rattle.ep_bitslice.specs.declared.cell.Side.{Side}
use Rattle.ep_bitslice.specs.declared.cell.Side.TheVariants.{Shared}
use Rattle.ep_bitslice.specs.Segments.{number}
use Rattle.ep_domain.specs.Domain.{Ops}
use Rattle.ep_cells.specs.declared.cell.Cell.{Cell}
use Rattle.ep_cells.specs.Cells.{on_left, on_right, place_of}
use Rattle.ep_cells.specs.States.{Known}
use Rattle.ep_cells.specs.Meaning.{Memories, Allows, HasBytes, Says, HasNumber, numbers_of, In}
use Rattle.ep_cells.specs.Memories.{AreRewritten, IsBroken, AreKilled}

-- a cell says what the new bytes are, and its form has, in the old memories, its number
pub record SaysNew {N : Type 0} (D : Ops N) (k : Known N) (c : Cell N) (m n : Memories) : Type 0 where
  pub cell : Says D k.orders k.model n c
  pub form : IfSome c.form (λ ss. HasNumber k.orders n c c.what (number (numbers_of k.orders m) ss))

-- the bytes of the place are replaced on the sides written by bytes that the cell allows
abbrev pub WriteHolds : {N : Type 0} → Ops N → Known N → Cell N → Known N → Type 0
WriteHolds D k c after = (m n : Memories) → In D k m → AreRewritten (place_of k.model c) m n → SaysNew D k c m n → In
    D after n

-- memories of either state are in the new one
pub record HoldsOfBoth {N : Type 0} (D : Ops N) (k : Known N) (others after : List (Cell N)) : Type 0 where
  pub left : (m : Memories) → In D k m → In D (record k { cells = after }) m
  pub right : (m : Memories) → In D (record k { cells = others }) m → In D (record k { cells = after }) m

-- memories of the first state are in the second
abbrev pub HoldsOfMore : {N : Type 0} → Ops N → Known N → List (Cell N) → Type 0
HoldsOfMore D k others = (m : Memories) → In D k m → In D (record k { cells = others }) m

-- One memory as it was, or, where its side is written, with bytes in the place of a cell that the cell allows.
pub data MayBeWritten {N : Type 0} (D : Ops N) (o : Order) (d : Model) (c : Cell N) (written : Bool) (m n : Memory) :
    Type 0 where
  as_it_was : ((b q : ℕ) → n b q ≡ m b q) → MayBeWritten D o d c written m n
  rewritten : written ≡ true → IsBroken d (place_of d c) m n → (v : Option Datum) → Allows D c.what c.value c.maybe v
      → HasBytes o n (size_of d c.what) c.what c.maybe c.block c.offset v → MayBeWritten D o d c written m n

-- Each memory by itself, or, where Shared cells stay, both or neither, with the bytes of one value.
pub data MayBeWeaklyWritten {N : Type 0} (D : Ops N) (k : Known N) (c : Cell N) (stays : Bool) (m n : Memories) :
    Type 0 where
  each_side : stays ≡ false → MayBeWritten D k.orders.0 k.model c (on_left c.side) m.left n.left
      → MayBeWritten D k.orders.1 k.model c (on_right c.side) m.right n.right → MayBeWeaklyWritten D k c stays m n
  neither : ((b q : ℕ) → n.left b q ≡ m.left b q) → ((b q : ℕ) → n.right b q ≡ m.right b q)
      → MayBeWeaklyWritten D k c stays m n
  both_sides : c.side ≡ Shared → IsBroken k.model (place_of k.model c) m.left n.left
      → IsBroken k.model (place_of k.model c) m.right n.right
      → Says D k.orders k.model n c → MayBeWeaklyWritten D k c stays m n

abbrev pub WeakWriteHolds : {N : Type 0} → Ops N → Known N → Cell N → Bool → Known N → Type 0
WeakWriteHolds D k c stays after = (m n : Memories) → In D k m → MayBeWeaklyWritten D k c stays m n → In D after n

abbrev pub KillHolds : {N : Type 0} → Ops N → Known N → Side → (block : ℕ) → Known N → Type 0
KillHolds D k s b after = (m n : Memories) → In D k m → AreKilled s b m n → In D after n
