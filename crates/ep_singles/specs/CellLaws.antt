-- Changes of cells where a state stands for one pair of memories alone.
use Rattle.std.specs.Prelude.{◌≡◌, ℕ, ◌^◌, ◌≤◌, true, false, List, Some, None}
use Rattle.ep_int.specs.Memory.{Memory, Value as Datum, undefined}
use Rattle.ep_layout.specs.declared.types.Leaf.{Leaf}
use Rattle.ep_bitslice.specs.declared.cell.Side.{Side}
use Rattle.ep_bitslice.specs.declared.cell.Side.TheVariants.{Left, Right}
use Rattle.ep_domain.specs.Domain.{Ops}
use Rattle.ep_cells.specs.declared.cell.Cell.{Cell}
use Rattle.ep_cells.specs.declared.cell.Value.{Value}
use Rattle.ep_cells.specs.declared.place.ByteRange.{ByteRange}
use Rattle.ep_cells.specs.Cells.{IsIn, on_left, on_right, place_of, is_partly_in}
use Rattle.ep_cells.specs.Kill.{AreLeavesIn, killed_cells}
use Rattle.ep_cells.specs.Look.{cell_at}
use Rattle.ep_cells.specs.States.{Known, IsOfSort, HasRisingBlocks}
use Rattle.ep_cells.specs.Meaning.{Memories, Allows, StandsAt}
use Rattle.ep_cells.specs.Memories.{is_byte_of, AreRewritten, AreKilled}
use Rattle.ep_cell_ranges.specs.Narrow.{with_value}
use Rattle.ep_cell_ranges.specs.Ranges.{overwritten}
use Rattle.ep_cell_ranges.specs.Sound.{AreNew, SayNew}
use Rattle.ep_singles.specs.Cells.{IsOneValue, IsOneCell, IsOne}

module _ {N : Type 0} (D : Ops N) where
  -- a block is killed on a side, or on both
  abbrev pub KillsKeepOne : Type 0
  KillsKeepOne =
      (k : Known N) (m n : Memories) → IsOne D k m → (s : Side) (b : ℕ) (leaves : List Leaf) (size : ℕ)
      → AreLeavesIn k.model 0 size leaves → size ≤ 2 ^ 32 → AreKilled s b m n
      → IsOne D (record k { cells = killed_cells k.model s b leaves size k.cells }) n

  -- a cell gets another value that can be one alone, and is what stands there
  abbrev pub NarrowsKeepOne : Type 0
  NarrowsKeepOne =
      (k : Known N) (m : Memories) → IsOne D k m → (c : Cell N) → IsIn c k.cells → c.maybe ≡ false → (v : Value N)
      → IsOfSort c.what (Some v) → HasRisingBlocks (Some v) → IsOneValue D (Some v) → (u : Datum)
      → StandsAt k.orders k.model m c (Some u) → Allows D c.what (Some v) false (Some u)
      → IsOne D (with_value c v k) m

  -- bytes of a place on a side that no new cell has are undefined
  abbrev pub IsFilled : Known N → ByteRange → List (Cell N) → Side → Memory → Type 0
  IsFilled k p new s m =
      (b q : ℕ) → is_byte_of p b q ≡ true → cell_at k.model s b q new ≡ None → m b q ≡ undefined

  -- new cells, each of one value, take a place in which no cell lies partly
  abbrev pub OverwritesKeepOne : Type 0
  OverwritesKeepOne =
      (k : Known N) (m n : Memories) → IsOne D k m → (p : ByteRange) (new : List (Cell N)) →
      AreNew k.model p k.cells new
      → ((x : Cell N) → IsIn x k.cells → is_partly_in p (place_of k.model x) ≡ false)
      → ((c : Cell N) → IsIn c new → IsOneCell D c) → AreRewritten p m n → SayNew D k new m n
      → (on_left p.side ≡ true → IsFilled k p new Left n.left)
      → (on_right p.side ≡ true → IsFilled k p new Right n.right) → IsOne D (overwritten D p new k) n
