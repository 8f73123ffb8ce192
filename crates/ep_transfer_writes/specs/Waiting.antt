-- What waits to be written, in code, and which cells it may be of.
use Rattle.std.specs.Prelude.{◌≡◌, if◌then◌else◌, List, [], ◌∷◌, Option, Some, None, slice_index_or}
use Rattle.ep_int.specs.declared.types.Scalar.{Scalar}
use Rattle.ep_cells.specs.declared.cell.Cell.{Cell}
use Rattle.ep_cells.specs.States.{Known, IsOfSort, IsCell, HasForm}
use Rattle.ep_core.specs.Runs.{Side, left, right}
use Rattle.ep_cell_ranges.specs.Ranges.{Form}
use Rattle.ep_cell_ranges.specs.Spots.{Spot, is_same_spot}
use Rattle.ep_cell_ranges.specs.Follow.{FormFits}
use Rattle.ep_equalities.specs.declared.pair.SideValue.{SideValue}
use Rattle.ep_evaluation.specs.Given.{pair}
use Rattle.ep_transfers.specs.Writes as spec
use Rattle.ep_transfer_writes.specs.declared.item.Item.{Item}
use Rattle.ep_transfer_writes.specs.declared.item.Underway.{Underway}
use Rattle.ep_transfer_writes.specs.declared.sides.On.{On}
use Rattle.ep_transfer_writes.specs.declared.sides.On.TheVariants.{Left, Right}

abbrev pub item_view : {N : Type 0} → Item N → spec.Item N
item_view i = record { pair = i.pair; left_maybe = i.left_maybe; right_maybe = i.right_maybe; same = i.same }

abbrev pub view : {N : Type 0} → Underway N → spec.Underway N
view u = spec.underway u.state (item_view u.item)

abbrev pub side_of : On → Side
side_of Left = left
side_of Right = right

-- the item with the first two of these forms
abbrev pub with_forms : {N : Type 0} → List Form → spec.Item N → spec.Item N
with_forms fs i = record i {
  pair = pair (record { value = i.pair.left.value; form = slice_index_or fs 0 None })
      (record { value = i.pair.right.value; form = slice_index_or fs 1 None }) i.pair.equal;
}

-- the place, where both sides have one and the same
abbrev pub one_spot : List Spot → List Spot → Option Spot
one_spot [] rs = None
one_spot (q ∷ []) [] = None
one_spot (q ∷ []) (r ∷ []) = if is_same_spot q r then Some q else None
one_spot (q ∷ []) (r ∷ s ∷ rs) = None
one_spot (q ∷ p ∷ qs) rs = None

-- a side's value is of a type, and its form may be that of a cell of it
pub record SideFits {N : Type 0} (k : Known N) (w : Scalar) (x : SideValue N) : Type 0 where
  pub sort : IsOfSort w x.value
  pub form : FormFits k.cells w x.form

-- so on both sides
pub record ItemFits {N : Type 0} (k : Known N) (w : Scalar) (i : spec.Item N) : Type 0 where
  pub left : SideFits k w i.pair.left
  pub right : SideFits k w i.pair.right

-- The machines stay, and of whatever type what waits is, it still is.
pub record Keeps {N : Type 0} (u v : spec.Underway N) : Type 0 where
  pub orders : v.known.orders ≡ u.known.orders
  pub model : v.known.model ≡ u.known.model
  pub fits : (w : Scalar) → ItemFits u.known w u.item → ItemFits v.known w v.item

-- it may be a cell of a state, whose form mentions cells that are there
pub record CanStand {N : Type 0} (k : Known N) (c : Cell N) : Type 0 where
  pub cell : IsCell k.model c
  pub form : HasForm k.cells c
