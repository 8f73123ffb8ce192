-- What is known where a tame program runs: cells of whole blocks, and pointers along objects of their types (this
-- project's rule).
use Rattle.std.specs.Prelude.{◌≡◌, ℕ, ◌<◌, true, false, List, length, Option, Some, None, slice_get}
use Rattle.ep_int.specs.declared.types.Order.{Order}
use Rattle.ep_int.specs.Memory.{contains}
use Rattle.ep_layout.specs.Table.{target_of}
use Rattle.ep_domain.specs.Domain.{Ops}
use Rattle.ep_cells.specs.declared.cell.Cell.{Cell}
use Rattle.ep_cells.specs.declared.cell.Value.{Value}
use Rattle.ep_cells.specs.declared.cell.Value.TheVariants.{Num, Ptr}
use Rattle.ep_cells.specs.Cells.{IsIn}
use Rattle.ep_cells.specs.States.{Known}
use Rattle.ep_core.specs.Program.{Block, Program}
use Rattle.ep_core.specs.Runs.{Side}
use Rattle.ep_core.specs.WellFormed.{is_named}
use Rattle.ep_evaluation.specs.Laws.{IsState}
use Rattle.ep_kinds.specs.Rows.{HasScalar}
use Rattle.ep_tame_laws.specs.Tamely.{is_result_of_main}
use Rattle.ep_tame_values.specs.Offsets.{EachTarget}
use Rattle.ep_tame_places.specs.Places.{PointsTo}
use Rattle.ep_tame_cells.specs.Shared.{AreHad}
use Rattle.ep_tame_cells.specs.Shape.{IsCovered, HasShape}

-- each target of a value, if it is a pointer's
abbrev pub ValueHas : {N : Type 0} → (ℕ → N → Type 0) → Option (Value N) → Type 0
ValueHas P None = Unit {0}
ValueHas P (Some (Num n)) = Unit {0}
ValueHas P (Some (Ptr q)) = EachTarget P q.targets

-- a number, that is there
pub record IsSure {N : Type 0} (c : Cell N) : Type 0 where
  pub number : N
  pub value : c.value ≡ Some (Num number)
  pub there : c.maybe ≡ false

module _ {N : Type 0} (D : Ops N) (p : Program) where
  -- a target in a block of the program
  abbrev pub IsInBlock : ℕ → N → Type 0
  IsInBlock b n = b < length p.blocks

  -- Where these blocks can be named, a pointer in a cell is into blocks of the program; and where the cell is that of a
  -- pointer to a type, it points along objects of that type. Main's result is a number, that is there.
  pub record CellPoints (live : List ℕ) (c : Cell N) : Type 0 where
    pub inside : ValueHas IsInBlock c.value
    pub along : (x : Block) → slice_get p.blocks c.block ≡ Some x → (pt ty : ℕ)
        → HasScalar p.types x.ty c.offset pt → target_of p.types pt ≡ Some ty
        → ValueHas (PointsTo D p live ty) c.value
    pub sure : is_result_of_main p c.block ≡ true → IsSure c

  -- A good state, where beside the globals the blocks `live` are there, and the results `res`; and it has whatever has
  -- a place in h. Main's result can't be named.
  pub record IsGood (ord : Side → Order) (h : Known N) (live res : List ℕ) (k : Known N) : Type 0 where
    pub state : IsState D p ord k
    pub shape : HasShape p k.cells
    pub named : (b : ℕ) → is_named p.types p.blocks live b ≡ true → IsCovered p k.cells b
    pub results : (b : ℕ) → contains b res ≡ true → IsCovered p k.cells b
    pub points : (c : Cell N) → IsIn c k.cells → CellPoints live c
    pub over : AreHad h.cells k.cells
    pub apart : (b : ℕ) → is_result_of_main p b ≡ true → is_named p.types p.blocks live b ≡ false
