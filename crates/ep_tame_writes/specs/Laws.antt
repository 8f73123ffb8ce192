-- A cell of both memories that is written over one of its place and type, at one place or at one of several, keeps a
-- state of a tame program good.
use Rattle.std.specs.Prelude.{◌≡◌, ℕ, ◌+◌, ◌^◌, ◌≤◌, Bool, true, List, [], ◌∷◌, Option, Some}
use Rattle.ep_int.specs.declared.types.Order.{Order}
use Rattle.ep_int.specs.declared.types.Scalar.{Scalar}
use Rattle.ep_int.specs.Types.{size_of}
use Rattle.ep_bitslice.specs.declared.cell.Side.TheVariants.{Shared}
use Rattle.ep_domain.specs.Domain.{Ops}
use Rattle.ep_cells.specs.declared.cell.Value.{Value}
use Rattle.ep_cells.specs.Cells.{place_of}
use Rattle.ep_cells.specs.States.{Known, IsOfSort, HasRisingBlocks}
use Rattle.ep_cells.specs.Weaken.{weakened}
use Rattle.ep_cell_ranges.specs.Follow.{FormFits}
use Rattle.ep_cell_ranges.specs.Ranges.{Form, replaced}
use Rattle.ep_cell_ranges.specs.Spots.{Spot}
use Rattle.ep_core.specs.Program.{Program}
use Rattle.ep_core.specs.Runs.{Side}
use Rattle.ep_equalities.specs.Same.{is_same}
use Rattle.ep_equalities.specs.declared.pair.Mode.TheVariants.{Both}
use Rattle.ep_equalities.specs.declared.pair.PairValue.{PairValue}
use Rattle.ep_equalities.specs.declared.pair.SideValue.{SideValue}
use Rattle.ep_layout.specs.Table.{scalar_of, target_of}
use Rattle.ep_transfers.specs.Places.{places_of}
use Rattle.ep_transfers.specs.Transfers.{sizes, assigned}
use Rattle.ep_transfers.specs.Writes.{new_cell}
use Rattle.ep_tame_laws.specs.Tamely.{IfReached}
use Rattle.ep_tame_places.specs.Places.{PointsTo}
use Rattle.ep_tame_accesses.specs.Laws.{HasObject, EachSpot}
use Rattle.ep_tame_cells.specs.Shared.{IsOverCell}
use Rattle.ep_tame_states.specs.States.{ValueHas, IsInBlock, CellPoints, IsGood}

-- what may be written at a place that has a cell of this type
pub record CanStand {N : Type 0} (D : Ops N) (p : Program) (live : List ℕ) (k : Known N) (q : Spot) (w : Scalar)
    (v : Option (Value N)) (maybe : Bool) (f : Form) : Type 0 where
  pub sort : IsOfSort w v
  pub rising : HasRisingBlocks v
  pub last : q.1 + size_of k.model w ≤ 2 ^ 32
  pub form : FormFits k.cells w f
  pub over : IsOverCell (new_cell Shared q w v maybe f) k.cells
  pub points : CellPoints D p live (new_cell Shared q w v maybe f)

pub record WritesKeepGood {N : Type 0} (D : Ops N) (p : Program) (ord : Side → Order) : Type 0 where
  pub strong : (h k : Known N) (live res : List ℕ) (q : Spot) (w : Scalar) (v : Option (Value N)) (maybe : Bool)
      (f : Form) → IsGood D p ord h live res k → CanStand D p live k q w v maybe f
      → IsGood D p ord h live res
      (replaced D (place_of k.model (new_cell Shared q w v maybe f)) (new_cell Shared q w v maybe f ∷ []) k)
  pub weak : (h k : Known N) (live res : List ℕ) (q : Spot) (w : Scalar) (v : Option (Value N)) (maybe : Bool)
      (f : Form) → IsGood D p ord h live res k → CanStand D p live k q w v maybe f
      → IsGood D p ord h live res
      (record k { cells = weakened D k.model (new_cell Shared q w v maybe f) true k.cells })

-- a value that may go to places of a type
pub record CanGoTo {N : Type 0} (D : Ops N) (p : Program) (live : List ℕ) (k : Known N) (u : ℕ) (w : Scalar)
    (x : SideValue N) : Type 0 where
  pub sort : IsOfSort w x.value
  pub rising : HasRisingBlocks x.value
  pub form : FormFits k.cells w x.form
  pub inside : ValueHas (IsInBlock D p) x.value
  pub along : (ty : ℕ) → target_of p.types u ≡ Some ty → ValueHas (PointsTo D p live ty) x.value

-- An address and a value that are the same on both machines: at each of its places stands an object of the type, and
-- what is left is good.
abbrev pub AssignmentsKeepGood : {N : Type 0} → Ops N → Program → (Side → Order) → Type 0
AssignmentsKeepGood {N = N} D p ord =
    (h k : Known N) (live res : List ℕ) (u : ℕ) (w : Scalar) (to v : PairValue N) → IsGood D p ord h live res k
    → scalar_of p.types u ≡ Some w → to.left ≡ to.right → is_same D to ≡ true → v.left ≡ v.right → is_same D v ≡ true
    → EachSpot (HasObject p live u) (places_of D (sizes D p) (size_of k.model w) (size_of k.model w) to).left
    → CanGoTo D p live k u w v.left
    → IfReached (IsGood D p ord h live res) (assigned D (sizes D p) Both w to v k).next
