-- What waits to be written stays such that it may be written: of a state alone, whatever its memories are
-- (this project's rules, after Miné 2006 and Delmas, Ouadjaout and Miné 2021).
use Rattle.std.specs.Prelude.{◌≡◌, ℕ, true, false, List, Some}
use Rattle.ep_int.specs.declared.types.Order.{Order}
use Rattle.ep_int.specs.declared.types.Scalar.{Scalar}
use Rattle.ep_int.specs.Memory.{contains}
use Rattle.ep_bitslice.specs.declared.cell.CellName.{CellName}
use Rattle.ep_domain.specs.Domain.{Ops}
use Rattle.ep_cells.specs.Forms.{form_after}
use Rattle.ep_cells.specs.States.{Known, IsThere, AreCells}
use Rattle.ep_core.specs.Program.{Program}
use Rattle.ep_core.specs.Runs.{Side}
use Rattle.ep_equalities.specs.declared.pair.Mode.{Mode}
use Rattle.ep_equalities.specs.declared.pair.PairValue.{PairValue}
use Rattle.ep_equalities.specs.declared.pair.SideValue.{SideValue}
use Rattle.ep_evaluation.specs.Given.{on}
use Rattle.ep_evaluation.specs.Laws.{IsState, SideFits}
use Rattle.ep_transfers.specs.Writes.{formed_side}
use Rattle.ep_transfers.specs.Transfers.{sizes, fate_off_blocks, entered, to_block, assigned}
use Rattle.ep_transfers.specs.Calls.{loaded_result, received_as}
use Rattle.ep_transfers.specs.Taken.{AreTaken}

-- From one state to another, cells of other blocks that may be mentioned stay.
abbrev pub OthersThere : {N : Type 0} → (frame : List ℕ) → Known N → Known N → Type 0
OthersThere frame j k = (c : CellName) → contains c.block frame ≡ false → IsThere c j.cells → IsThere c k.cells

pub record WaitingHolds {N : Type 0} (D : Ops N) (p : Program) (ord : Side → Order) : Type 0 where
  -- They stay where a frame comes.
  pub comes : (mode : Mode) (frame : List ℕ) (k : Known N) → IsState D p ord k
      → OthersThere frame k (entered D p mode frame k)
  -- They stay where a value goes to a block of the frame.
  pub set : (frame : List ℕ) (mode : Mode) (w : Scalar) (b : ℕ) (v : PairValue N) (k j : Known N)
      → contains b frame ≡ true → AreCells k.model k.cells → SideFits D p ord k w v.left
      → (assigned D (sizes D p) mode w (to_block D mode b) v k).next ≡ Some j → OthersThere frame k j
  -- What was found before, and has lost its mentions of the frame, still fits where they stay.
  pub waits : (frame : List ℕ) (j k : Known N) → OthersThere frame j k → (w : Scalar) (x : SideValue N)
      → SideFits D p ord j w x → SideFits D p ord k w (formed_side (form_after (fate_off_blocks frame)) x)
  -- What a result gives to a place fits.
  pub received : (b : ℕ) (v w : Scalar) → AreTaken v w → (k : Known N) → IsState D p ord k → (mode : Mode) (s : Side)
      → SideFits D p ord k w (on (received_as D p v w mode (loaded_result D p mode (b, v) k)).pair s)
