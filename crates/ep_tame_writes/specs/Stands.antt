-- Places at which a good state has a cell, and values that may go there (this project's rule).
use Rattle.std.specs.Prelude.{◌≡◌, ◌<◌, ◌⊎◌, ◌||◌, true, false, List, Option, Some, slice_get, ℕ}
use Rattle.ep_int.specs.Memory.{contains}
use Rattle.ep_int.specs.declared.types.IntType.{IntType}
use Rattle.ep_int.specs.declared.types.Scalar.{Scalar}
use Rattle.ep_int.specs.declared.types.Scalar.TheVariants.{Int as Number}
use Rattle.ep_layout.specs.Table.{target_of}
use Rattle.ep_domain.specs.Domain.{Ops}
use Rattle.ep_cells.specs.declared.cell.Value.{Value}
use Rattle.ep_cells.specs.declared.cell.Value.TheVariants.{Num}
use Rattle.ep_cells.specs.States.{Known, IsOfSort, HasRisingBlocks}
use Rattle.ep_cell_ranges.specs.Follow.{FormFits}
use Rattle.ep_cell_ranges.specs.Spots.{Spot}
use Rattle.ep_core.specs.Program.{Block, Program}
use Rattle.ep_core.specs.WellFormed.{is_named}
use Rattle.ep_equalities.specs.declared.pair.SideValue.{SideValue}
use Rattle.ep_kinds.specs.Rows.{HasScalar}
use Rattle.ep_transfers.specs.Writes.{Item}
use Rattle.ep_tame_laws.specs.Tamely.{is_result_of_main}
use Rattle.ep_tame_cells.specs.Shape.{cell_type}
use Rattle.ep_tame_places.specs.Places.{PointsTo}
use Rattle.ep_tame_states.specs.States.{ValueHas, IsInBlock}

abbrev pub IsNumberType : Scalar → Type 0
IsNumberType w = (t : IntType) × (w ≡ Number t)

-- A cell of this type stands at the place, in a block that can be named or holds a result; `Taken` holds if it is
-- main's.
pub record HasPlace (p : Program) (live res : List ℕ) (Taken : Type 0) (w : Scalar) (q : Spot) : Type 0 where
  pub of_block : Block
  pub there : slice_get p.blocks q.0 ≡ Some of_block
  pub held : (is_named p.types p.blocks live q.0 ≡ true)
      ⊎ ((contains q.0 res ≡ true) × (is_result_of_main p q.0 ≡ true → Taken))
  pub inside : q.1 < of_block.size
  pub what : cell_type p.types of_block.ty q.1 ≡ Some w

-- numbers of both sides, that are there
pub record AreSure {N : Type 0} (i : Item N) : Type 0 where
  pub left : N
  pub is_left : i.pair.left.value ≡ Some (Num left)
  pub right : N
  pub is_right : i.pair.right.value ≡ Some (Num right)
  pub there : (i.left_maybe || i.right_maybe) ≡ false

module _ {N : Type 0} (D : Ops N) (p : Program) where
  -- where the place is that of a pointer to a type, the value points along objects of that type
  abbrev pub MayStand : (live : List ℕ) → Option (Value N) → Spot → Type 0
  MayStand live v q =
      (x : Block) → slice_get p.blocks q.0 ≡ Some x → (pt ty : ℕ) → HasScalar p.types x.ty q.1 pt
      → target_of p.types pt ≡ Some ty → ValueHas (PointsTo D p live ty) v

  -- a value that a cell of the type may have
  pub record IsOfCells (w : Scalar) (v : Option (Value N)) : Type 0 where
    pub sort : IsOfSort w v
    pub rising : HasRisingBlocks v
    pub inside : ValueHas (IsInBlock D p) v

  -- and a form with it
  pub record CanStay (k : Known N) (w : Scalar) (x : SideValue N) : Type 0 where
    pub of_cells : IsOfCells w x.value
    pub form : FormFits k.cells w x.form
