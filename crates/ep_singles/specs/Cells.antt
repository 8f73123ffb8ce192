-- States of which each stands for one pair of memories alone: each byte is undefined, or the byte of one value (this
-- project's rules).
use Rattle.std.specs.Prelude.{◌≡◌, ℕ, ℤ, true, false, Option, Some, None}
use Rattle.ep_int.specs.Memory.{Memory, undefined}
use Rattle.ep_bitslice.specs.declared.cell.Side.{Side}
use Rattle.ep_bitslice.specs.declared.cell.Side.TheVariants.{Left, Right}
use Rattle.ep_domain.specs.Domain.{Ops, IsSingle}
use Rattle.ep_pointers.specs.Value.{Pointers, HasOneMember}
use Rattle.ep_cells.specs.declared.cell.Cell.{Cell}
use Rattle.ep_cells.specs.declared.cell.Value.{Value}
use Rattle.ep_cells.specs.declared.cell.Value.TheVariants.{Num, Ptr}
use Rattle.ep_cells.specs.Cells.{IsIn}
use Rattle.ep_cells.specs.Look.{cell_at}
use Rattle.ep_cells.specs.States.{Known, AreCells}
use Rattle.ep_cells.specs.Meaning.{Memories, In}

module _ {N : Type 0} (D : Ops N) where
  -- a single number, or a pointer that can be one alone
  pub data IsOneValue : Option (Value N) → Type 0 where
    one_number : (n : N) (z : ℤ) → IsSingle D n z → IsOneValue (Some (Num n))
    one_pointer : (p : Pointers N) → HasOneMember D p → IsOneValue (Some (Ptr p))

  -- surely undefined, or surely of one value
  pub data IsOneCell (c : Cell N) : Type 0 where
    no_value : c.value ≡ None → IsOneCell c
    one_value : c.maybe ≡ false → IsOneValue c.value → IsOneCell c

  -- what no cell of a side has is undefined there
  abbrev pub IsEmptyOutside : Side → Known N → Memory → Type 0
  IsEmptyOutside s k m = (b q : ℕ) → cell_at k.model s b q k.cells ≡ None → m b q ≡ undefined

  pub record IsOne (k : Known N) (m : Memories) : Type 0 where
    pub cells : AreCells k.model k.cells
    pub each : (c : Cell N) → IsIn c k.cells → IsOneCell c
    pub left_outside : IsEmptyOutside Left k m.left
    pub right_outside : IsEmptyOutside Right k m.right
    pub holds : In D k m
