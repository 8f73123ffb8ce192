-- A scalar is stored where a state stands for one pair of memories alone (C11 6.5.16p3; this project's rules).
use Rattle.std.specs.Prelude.{◌≡◌, ℕ, ◌+◌, ◌^◌, ◌≤◌, Bool, true, false, [], ◌∷◌, Option, Some}
use Rattle.ep_int.specs.declared.types.Model.{Model}
use Rattle.ep_int.specs.declared.types.Order.{Order}
use Rattle.ep_int.specs.declared.types.Scalar.{Scalar}
use Rattle.ep_int.specs.Types.{size_of}
use Rattle.ep_int.specs.Memory.{Memory, Value as Datum, stored}
use Rattle.ep_bitslice.specs.declared.cell.Side.{Side}
use Rattle.ep_domain.specs.Domain.{Ops}
use Rattle.ep_cells.specs.declared.cell.Value.{Value}
use Rattle.ep_cells.specs.Cells.{on_left, on_right, place_of}
use Rattle.ep_cells.specs.States.{Known, IsOfSort, HasRisingBlocks}
use Rattle.ep_cells.specs.Meaning.{Memories, Allows}
use Rattle.ep_cell_ranges.specs.Ranges.{Form, replaced}
use Rattle.ep_cell_ranges.specs.Spots.{Spot}
use Rattle.ep_cell_ranges.specs.Follow.{FormFits, FormHas}
use Rattle.ep_transfers.specs.Writes.{new_cell}
use Rattle.ep_singles.specs.Cells.{IsOneValue, IsOne}

-- A memory after the store of a value at a place, where it is stored here; else it is as it was.
pub record IsStoredAt (o : Order) (d : Model) (w : Scalar) (q : Spot) (x : Datum) (here : Bool) (m n : Memory) : Type 0
  where
    pub written : here ≡ true → (b j : ℕ) → n b j ≡ stored o d m w q.0 q.1 x b j
    pub stays : here ≡ false → (b j : ℕ) → n b j ≡ m b j

module _ {N : Type 0} (D : Ops N) where
  -- a value of a type that can be one alone, the machine's one x, with a form; and there is room for it
  pub record IsOneToStore (k : Known N) (m : Memories) (q : Spot) (w : Scalar) (v : Option (Value N)) (f : Form)
      (x : Datum) : Type 0 where
    pub one : IsOneValue D v
    pub sort : IsOfSort w v
    pub rising : HasRisingBlocks v
    pub last : q.1 + size_of k.model w ≤ 2 ^ 32
    pub allowed : Allows D w v false (Some x)
    pub form_fits : FormFits k.cells w f
    pub form_has : FormHas k.orders m w x f

  abbrev pub StoresKeepOne : Type 0
  StoresKeepOne =
      (k : Known N) (m n : Memories) → IsOne D k m → (s : Side) (q : Spot) (w : Scalar) (v : Option (Value N))
      (f : Form) (x : Datum) → IsOneToStore k m q w v f x
      → IsStoredAt k.orders.0 k.model w q x (on_left s) m.left n.left
      → IsStoredAt k.orders.1 k.model w q x (on_right s) m.right n.right
      → IsOne D (replaced D (place_of k.model (new_cell s q w v false f)) (new_cell s q w v false f ∷ []) k) n
