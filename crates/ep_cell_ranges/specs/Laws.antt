-- The laws of ranges of cells, of values of cells and of forms that are held while cells change.
use Rattle.std.specs.Prelude.{◌≡◌, ℕ, ◌+◌, ◌^◌, ◌<◌, ◌≤◌, Bool, true, false, ◌↔◌, IsTrue, List, ◌++◌, map, Some}
use Rattle.ep_int.specs.declared.types.Model.{Model}
use Rattle.ep_int.specs.declared.types.Order.{Order}
use Rattle.ep_int.specs.declared.types.Scalar.{Scalar}
use Rattle.ep_int.specs.Types.{size_of}
use Rattle.ep_int.specs.Memory.{Value as Datum, has, bytes_from, value_of_bytes}
use Rattle.ep_layout.specs.declared.types.Leaf.{Leaf}
use Rattle.ep_bitslice.specs.declared.cell.Side.{Side}
use Rattle.ep_bitslice.specs.declared.cell.Side.TheVariants.{Left, Shared}
use Rattle.ep_domain.specs.Domain.{Ops}
use Rattle.ep_cells.specs.declared.cell.Cell.{Cell}
use Rattle.ep_cells.specs.declared.cell.Value.{Value}
use Rattle.ep_cells.specs.declared.place.ByteRange.{ByteRange}
use Rattle.ep_cells.specs.Cells.{place_of, is_same_side, IsIn}
use Rattle.ep_cells.specs.Forms.{Fate, form_after}
use Rattle.ep_cells.specs.Look.{cell_at, is_some_partly_in}
use Rattle.ep_cells.specs.Write.{written, fate_by_write}
use Rattle.ep_cells.specs.Weaken.{weakened, fate_by_weak_write}
use Rattle.ep_cells.specs.Kill.{AreLeavesIn, fate_by_kill, killed_cells}
use Rattle.ep_cells.specs.States.{Known, IsOfSort, HasRisingBlocks, EachPair, AreApart, AreCells, CanWrite}
use Rattle.ep_cells.specs.States.{HaveCellsAlike}
use Rattle.ep_cells.specs.Meaning.{Memories, Allows, StandsAt, In}
use Rattle.ep_cells.specs.Memories.{AreRewritten, AreKilled}
use Rattle.ep_cells.specs.Sound.{MayBeWeaklyWritten}
use Rattle.ep_reads.specs.Read.{is_exact}
use Rattle.ep_reads.specs.Split.{split}
use Rattle.ep_reads.specs.SplitLaws.{AreBroken}
use Rattle.ep_cell_ranges.specs.First.{filled_from}
use Rattle.ep_cell_ranges.specs.Narrow.{set_in, with_value}
use Rattle.ep_cell_ranges.specs.Ranges.{Form, form_by_split, overwritten, replaced, form_by_replace, blurred_at}
use Rattle.ep_cell_ranges.specs.Spots.{Spot}
use Rattle.ep_cell_ranges.specs.Moves.{place_at, blurred_each, weakened_each, form_by_weak_each, moved_to, taken}
use Rattle.ep_cell_ranges.specs.Moves.{taken_by_both}
use Rattle.ep_cell_ranges.specs.Tests.{are_cells, are_alike}
use Rattle.ep_cell_ranges.specs.Follow.{FormFits, FormHas, Drops}
use Rattle.ep_cell_ranges.specs.Sound.{AreStored, AreNew, SayNew, MayBothBeChanged, IsAmong, FitEach}
use Rattle.ep_cell_ranges.specs.Sound.{moved_place, AreCopied, AreMade, IsFilled}

-- ---- tests

-- The test of a list of cells tells whether they are in order, fit, don't overlap on a side and have forms that mention
-- cells which are there; the other one, whether two states have cells of the same sides, places and types.
pub record TestLaws (N : Type 0) : Type 0 where
  pub cells : (d : Model) (cs : List (Cell N)) → IsTrue (are_cells d cs) ↔ AreCells d cs
  pub alike : (xs ys : List (Cell N)) → IsTrue (are_alike xs ys) ↔ HaveCellsAlike xs ys

-- ---- values of cells

-- A cell that surely has a value gets another one of its sort: what is left is a state, and holds of the memories in
-- which the new value allows what stands there.
pub record NarrowLaws {N : Type 0} (D : Ops N) : Type 0 where
  pub cells : (d : Model) (cs : List (Cell N)) (c : Cell N) (v : Value N) → AreCells d cs → IsIn c cs
      → IsOfSort c.what (Some v) → HasRisingBlocks (Some v) → AreCells d (map (set_in c v) cs)
  pub holds : (k : Known N) (c : Cell N) (v : Value N) → AreCells k.model k.cells → IsIn c k.cells
      → c.maybe ≡ false → (m : Memories) (u : Datum) → In D k m → StandsAt k.orders k.model m c (Some u)
      → Allows D c.what (Some v) false (Some u) → In D (with_value c v k) m

-- A scalar that is read by a sure Shared cell of its place, size and sort is the same on both sides.
pub record SharedLaws {N : Type 0} (D : Ops N) : Type 0 where
  pub same : (k : Known N) (m : Memories) (w : Scalar) (b q : ℕ) (x : Cell N) → AreCells k.model k.cells → In D k m
      → cell_at k.model Left b q k.cells ≡ Some x → is_exact k.model w q x ≡ true → x.side ≡ Shared → x.maybe ≡ false
      → (u v : Datum) → value_of_bytes k.orders.0 w (bytes_from m.left b q (size_of k.model w)) ≡ has u
      → value_of_bytes k.orders.1 w (bytes_from m.right b q (size_of k.model w)) ≡ has v → u ≡ v

-- ---- forms that are held

-- What the laws of splits don't say: a split makes no cell lie partly in a place in which none does; and a form that is
-- held may still be that of a cell, and says the same number.
pub record MoreSplitLaws {N : Type 0} (D : Ops N) : Type 0 where
  pub uncut : (k : Known N) (p q : ByteRange) → AreCells k.model k.cells → is_same_side p.side Shared ≡ false
      → is_some_partly_in k.model q k.cells ≡ false → is_some_partly_in k.model q (split D k p) ≡ false
  pub fits : (k : Known N) (p : ByteRange) → AreCells k.model k.cells → is_same_side p.side Shared ≡ false
      → (w : Scalar) (f : Form) → FormFits k.cells w f → FormFits (split D k p) w (form_by_split D p k f)
  pub numbers : (k : Known N) (p : ByteRange) → AreCells k.model k.cells → is_same_side p.side Shared ≡ false
      → (m n : Memories) → In D k m → AreBroken k.model p m n → (w : Scalar) (v : Datum) (f : Form)
      → FormFits k.cells w f → FormHas k.orders m w v f → FormHas k.orders n w v (form_by_split D p k f)

-- The same of a write.
pub record MoreWriteLaws {N : Type 0} (D : Ops N) : Type 0 where
  pub fits : (k : Known N) (c : Cell N) → AreCells k.model k.cells → CanWrite k.model c k.cells
      → HasRisingBlocks c.value → (w : Scalar) (f : Form) → FormFits k.cells w f
      → FormFits (written k.model c k.cells) w (form_after (fate_by_write (place_of k.model c)) f)
  pub numbers : (k : Known N) (c : Cell N) → AreCells k.model k.cells → (m n : Memories) → In D k m
      → AreRewritten (place_of k.model c) m n → (w : Scalar) (v : Datum) (f : Form) → FormFits k.cells w f
      → FormHas k.orders m w v f → FormHas k.orders n w v (form_after (fate_by_write (place_of k.model c)) f)

-- The same of a cell that may be written.
pub record MoreWeakWriteLaws {N : Type 0} (D : Ops N) : Type 0 where
  pub fits : (k : Known N) (c : Cell N) (stays : Bool) → (stays ≡ true → c.side ≡ Shared) → (w : Scalar) (f : Form)
      → FormFits k.cells w f
      → FormFits (weakened D k.model c stays k.cells) w (form_after (fate_by_weak_write (place_of k.model c)) f)
  pub numbers : (k : Known N) (c : Cell N) (stays : Bool) (m n : Memories) → MayBeWeaklyWritten D k c stays m n
      → (w : Scalar) (v : Datum) (f : Form) → FormFits k.cells w f → FormHas k.orders m w v f
      → FormHas k.orders n w v (form_after (fate_by_weak_write (place_of k.model c)) f)

-- The same of a block that is killed.
pub record MoreKillLaws {N : Type 0} (D : Ops N) : Type 0 where
  pub fits : (k : Known N) (s : Side) (b : ℕ) (leaves : List Leaf) (size : ℕ) → AreCells k.model k.cells
      → (w : Scalar) (f : Form) → FormFits k.cells w f
      → FormFits (killed_cells k.model s b leaves size k.cells) w (form_after (fate_by_kill s b) f)
  pub numbers : (k : Known N) (s : Side) (b : ℕ) → AreCells k.model k.cells → (m n : Memories) → In D k m
      → AreKilled s b m n → (w : Scalar) (v : Datum) (f : Form) → FormFits k.cells w f → FormHas k.orders m w v f
      → FormHas k.orders n w v (form_after (fate_by_kill s b) f)

-- The same where forms with some mentions are dropped, and no cell changes.
pub record DropLaws (N : Type 0) : Type 0 where
  pub fits : (cs : List (Cell N)) (f : Fate) → Drops f → (w : Scalar) (g : Form) → FormFits cs w g
      → FormFits cs w (form_after f g)
  pub numbers : (cs : List (Cell N)) (f : Fate) → Drops f → (os : Order × Order) (m : Memories) (w : Scalar) (v : Datum)
      (g : Form) → FormFits cs w g → FormHas os m w v g → FormHas os m w v (form_after f g)

-- ---- ranges

-- New cells take a place of n bytes: what is left is a state, and holds of memories in which the bytes of the place are
-- replaced, on its sides, by bytes that the new cells allow. Forms that are held fit, and keep their number.
pub record OverwriteLaws {N : Type 0} (D : Ops N) : Type 0 where
  pub cells : (k : Known N) (p : ByteRange) (new : List (Cell N)) → AreCells k.model k.cells →
      AreNew k.model p k.cells new
      → AreCells k.model (overwritten D p new k).cells
  pub holds : (k : Known N) (p : ByteRange) (new : List (Cell N)) → AreCells k.model k.cells →
      AreNew k.model p k.cells new
      → (m n : Memories) → In D k m → AreRewritten p m n → SayNew D k new m n → In D (overwritten D p new k) n
  pub fits : (k : Known N) (p : ByteRange) (new : List (Cell N)) → (w : Scalar) (f : Form) → FormFits k.cells w f
      → FormFits (overwritten D p new k).cells w (form_after (fate_by_write p) f)
  pub numbers : (k : Known N) (p : ByteRange) → AreCells k.model k.cells → (m n : Memories) → In D k m →
      AreRewritten p m n
      → (w : Scalar) (v : Datum) (f : Form) → FormFits k.cells w f → FormHas k.orders m w v f
      → FormHas k.orders n w v (form_after (fate_by_write p) f)

-- The same where cells that lie partly in the place are split first, and pointers that do are undefined.
pub record ReplaceLaws {N : Type 0} (D : Ops N) : Type 0 where
  pub orders : (k : Known N) (p : ByteRange) (new : List (Cell N)) → (replaced D p new k).orders ≡ k.orders
  pub model : (k : Known N) (p : ByteRange) (new : List (Cell N)) → (replaced D p new k).model ≡ k.model
  pub cells : (k : Known N) (p : ByteRange) (new : List (Cell N)) → AreCells k.model k.cells →
      AreNew k.model p k.cells new
      → AreCells k.model (replaced D p new k).cells
  pub holds : (k : Known N) (p : ByteRange) (new : List (Cell N)) → AreCells k.model k.cells →
      AreNew k.model p k.cells new
      → (m n : Memories) → In D k m → AreStored k.model p m n → SayNew D k new m n → In D (replaced D p new k) n
  pub fits : (k : Known N) (p : ByteRange) (new : List (Cell N)) → AreCells k.model k.cells → (w : Scalar) (f : Form)
      → FormFits k.cells w f → FormFits (replaced D p new k).cells w (form_by_replace D p k f)
  pub numbers : (k : Known N) (p : ByteRange) → AreCells k.model k.cells → (m n : Memories) → In D k m
      → AreStored k.model p m n → (w : Scalar) (v : Datum) (f : Form) → FormFits k.cells w f
      → FormHas k.orders m w v f → FormHas k.orders n w v (form_by_replace D p k f)

-- A place of n bytes may have been written: what is left is a state, and holds of memories in which the bytes of the
-- place are as they were or any others, in each memory of its sides by itself.
pub record BlurLaws {N : Type 0} (D : Ops N) : Type 0 where
  pub cells : (k : Known N) (p : ByteRange) → AreCells k.model k.cells → AreCells k.model (blurred_at D p k).cells
  pub holds : (k : Known N) (p : ByteRange) → AreCells k.model k.cells → (m n : Memories) → In D k m
      → MayBothBeChanged k.model p m n → In D (blurred_at D p k) n
  pub fits : (k : Known N) (p : ByteRange) (w : Scalar) (f : Form) → FormFits k.cells w f
      → FormFits (blurred_at D p k).cells w (form_after (fate_by_weak_write p) f)
  pub numbers : (k : Known N) (p : ByteRange) (m n : Memories) → MayBothBeChanged k.model p m n →
      (w : Scalar) (v : Datum)
      (f : Form) → FormFits k.cells w f → FormHas k.orders m w v f
      → FormHas k.orders n w v (form_after (fate_by_weak_write p) f)

-- One of several such places may have been written.
pub record BlurEachLaws {N : Type 0} (D : Ops N) : Type 0 where
  pub cells : (k : Known N) (s : Side) (bytes : ℕ) (qs : List Spot) → AreCells k.model k.cells
      → AreCells k.model (blurred_each D s bytes qs k).cells
  pub holds : (k : Known N) (s : Side) (bytes : ℕ) (qs : List Spot) (q : Spot) → AreCells k.model k.cells
      → IsAmong q qs → (m n : Memories) → In D k m → MayBothBeChanged k.model (place_at s q bytes) m n
      → In D (blurred_each D s bytes qs k) n

-- A cell may be written at one of several places: the result holds of memories in which it was written at one of them.
pub record WeakEachLaws {N : Type 0} (D : Ops N) : Type 0 where
  pub cells : (k : Known N) (c : Spot → Cell N) (stays : Bool) (qs : List Spot) → AreCells k.model k.cells
      → FitEach k.model c stays qs → AreCells k.model (weakened_each D c stays qs k).cells
  pub holds : (k : Known N) (c : Spot → Cell N) (stays : Bool) (qs : List Spot) (q : Spot) → AreCells k.model k.cells
      → FitEach k.model c stays qs → IsAmong q qs → (m n : Memories) → In D k m → MayBeWeaklyWritten D k (c q) stays m n
      → In D (weakened_each D c stays qs k) n
  pub fits : (k : Known N) (c : Spot → Cell N) (stays : Bool) (qs : List Spot) → FitEach k.model c stays qs
      → (w : Scalar) (f : Form) → FormFits k.cells w f
      → FormFits (weakened_each D c stays qs k).cells w (form_by_weak_each k.model c qs f)
  pub numbers : (k : Known N) (c : Spot → Cell N) (stays : Bool) (qs : List Spot) (q : Spot)
      → FitEach k.model c stays qs → IsAmong q qs → (m n : Memories) → MayBeWeaklyWritten D k (c q) stays m n
      → (w : Scalar) (v : Datum) (f : Form) → FormFits k.cells w f → FormHas k.orders m w v f
      → FormHas k.orders n w v (form_by_weak_each k.model c qs f)

-- What a copy takes of a place, on a side or on both: the cells lie in it and have no byte in common, those of a side
-- in order; they say what the bytes of the place are where pointers that lie partly in it are undefined.
pub record TakenLaws {N : Type 0} (D : Ops N) : Type 0 where
  pub new : (k : Known N) (p : ByteRange) → AreCells k.model k.cells → is_same_side p.side Shared ≡ false
      → AreNew k.model p k.cells (taken D k p)
  pub ordered : (k : Known N) (p : ByteRange) → AreCells k.model k.cells → is_same_side p.side Shared ≡ false
      → EachPair (AreApart k.model) (taken D k p)
  pub says : (k : Known N) (p : ByteRange) → AreCells k.model k.cells → is_same_side p.side Shared ≡ false
      → (m n : Memories) → In D k m → AreBroken k.model p m n → SayNew D k (taken D k p) m n
  pub both_new : (k : Known N) (q : Spot) (bytes : ℕ) → AreCells k.model k.cells
      → AreNew k.model (place_at Shared q bytes) k.cells (taken_by_both D k q bytes)
  pub both_says : (k : Known N) (q : Spot) (bytes : ℕ) → AreCells k.model k.cells → (m n : Memories) → In D k m
      → AreBroken k.model (place_at Shared q bytes) m n → SayNew D k (taken_by_both D k q bytes) m n

-- New cells of a place that are moved to another one are new cells there, and say of its bytes what they said, where
-- the bytes are the same.
pub record MoveLaws {N : Type 0} (D : Ops N) : Type 0 where
  pub new : (k : Known N) (p : ByteRange) (to : Spot) (new : List (Cell N)) → to.1 + p.bytes ≤ 2 ^ 32
      → AreNew k.model p k.cells new
      → AreNew k.model (moved_place p to) k.cells (map (moved_to (p.block, p.offset) to) new)
  pub says : (k : Known N) (p : ByteRange) (to : Spot) (new : List (Cell N)) → AreNew k.model p k.cells new
      → (m n o : Memories) → AreCopied p to n o → SayNew D k new m n
      → SayNew D k (map (moved_to (p.block, p.offset) to) new) m o

-- ---- the cells that a program begins with

-- The cells of a block whose bytes all have values are cells in order, each that of a leaf or of a byte outside of all
-- leaves. Those of earlier blocks and of later ones are cells together, and hold of memories where both do.
pub record FirstLaws {N : Type 0} (D : Ops N) : Type 0 where
  pub cells : (d : Model) (s : Side) (b : ℕ) (leaf : ℕ → Scalar → Cell N) (byte : ℕ → Cell N) (leaves : List Leaf)
      (size : ℕ) → AreLeavesIn d 0 size leaves → size ≤ 2 ^ 32 → AreMade d s b leaf byte
      → AreCells d (filled_from d leaf byte leaves 0 size)
  pub made : (d : Model) (leaf : ℕ → Scalar → Cell N) (byte : ℕ → Cell N) (leaves : List Leaf) (q n : ℕ) (c : Cell N)
      → IsIn c (filled_from d leaf byte leaves q n) → IsFilled d leaf byte leaves q n c
  pub beside : (d : Model) (xs ys : List (Cell N)) → AreCells d xs → AreCells d ys
      → ((x y : Cell N) → IsIn x xs → IsIn y ys → x.block < y.block) → AreCells d (xs ++ ys)
  pub holds : (k : Known N) (ys : List (Cell N)) (m : Memories) → In D k m → In D (record k { cells = ys }) m
      → In D (record k { cells = k.cells ++ ys }) m
