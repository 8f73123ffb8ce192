-- Pointers that are moved, and elements of arrays in place, where values can be one alone (C11 6.5.6p8; the values are
-- this project's rules).
use Rattle.std.specs.Prelude.{◌≡◌, ℕ, ◌^◌, ◌<◌, ◌≤◌, ℤ, pos, ◌+ℤ◌, Bool, false, List, slice_get, slice_index, Option}
use Rattle.std.specs.Prelude.{Some, None}
use Rattle.std.specs.Option.{option_map}
use Rattle.ep_int.specs.Memory.{Value as Datum, has}
use Rattle.ep_domain.specs.Domain.{Ops, IsSingle}
use Rattle.ep_cells.specs.declared.cell.Value.TheVariants.{Ptr}
use Rattle.ep_core.specs.Exec.{distance, place_in, element_at}
use Rattle.ep_equalities.specs.declared.pair.SideValue.{SideValue}
use Rattle.ep_evaluation.specs.Accesses.{move_leaves, moves_null, element_of, index_leaves, element_passes}
use Rattle.ep_evaluation.specs.Evaluation.{pointer, move_side}
use Rattle.ep_singles.specs.Cells.{IsOneValue}
use Rattle.ep_single_places.specs.Laws.{IsOneInto}

-- units of 32 bits
pub record IsUnit (unit : ℕ) : Type 0 where
  pub positive : 1 ≤ unit
  pub small : unit < 2 ^ 32

-- sizes of 32 bits
abbrev pub AreSizes : List ℕ → Type 0
AreSizes sizes = (i : ℕ) → slice_index sizes i < 2 ^ 32

module _ {N : Type 0} (D : Ops N) where
  -- it is this number alone
  pub record IsOneNumber (o : Option N) (k : ℤ) : Type 0 where
    pub n : N
    pub is : o ≡ Some n
    pub single : IsSingle D n k

  -- nothing is wrong, and the result can be one alone
  pub record IsOneMove (sizes : List ℕ) (unit : ℕ) (back : Bool) (x : SideValue N) (o : Option N) : Type 0 where
    pub not_null : moves_null (pointer D x) o ≡ false
    pub inside : move_leaves D sizes unit back (pointer D x) o ≡ None
    pub one : IsOneValue D (move_side D sizes unit back x o).value

  -- where the machine's result is in the block
  abbrev pub MovesAreOne : Type 0
  MovesAreOne =
      (sizes : List ℕ) → AreSizes sizes → (unit : ℕ) → IsUnit unit → (back : Bool) (x : SideValue N) (b q size : ℕ)
      → IsOneInto D x.value b q → q < 2 ^ 32 → slice_get sizes b ≡ Some size → (o : Option N) (k : ℤ)
      → IsOneNumber o k → (w : Datum) → place_in size b (pos q +ℤ distance unit k back) ≡ has w
      → IsOneMove sizes unit back x o

  pub record IsOneElement (bound unit : ℕ) (x : SideValue N) (o : Option N) : Type 0 where
    pub not_null : moves_null (pointer D x) o ≡ false
    pub below : index_leaves D bound (pointer D x) o ≡ None
    pub near : element_passes D bound unit (pointer D x) o ≡ None
    pub one : IsOneValue D (option_map Ptr (element_of D bound unit (pointer D x) o))

  -- where the machine's index is below the bound
  abbrev pub ElementsAreOne : Type 0
  ElementsAreOne =
      (bound unit : ℕ) → IsUnit unit → (x : SideValue N) (b q : ℕ) → IsOneInto D x.value b q → q < 2 ^ 32
      → (o : Option N) (i : ℤ) → IsOneNumber o i → (w : Datum) → element_at b q bound unit i ≡ has w
      → IsOneElement bound unit x o
