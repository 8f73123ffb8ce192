-- An input of one byte goes to the next byte of a block, on both machines (this project's rules).
use Rattle.std.specs.Prelude.{◌≡◌, ℕ, suc, ◌+◌, ◌^◌, ◌<◌, ◌≤◌, true, List, [], ◌∷◌, length, Ok}
use Rattle.ep_int.specs.declared.types.IntType.TheVariants.{U8}
use Rattle.ep_int.specs.declared.types.Order.{Order}
use Rattle.ep_int.specs.declared.types.Scalar.TheVariants.{Int}
use Rattle.ep_int.specs.Types.{size_of}
use Rattle.ep_domain.specs.Domain.{Ops}
use Rattle.ep_cells.specs.declared.cell.Cell.{Cell}
use Rattle.ep_cells.specs.Cells.{IsIn}
use Rattle.ep_cells.specs.States.{Known}
use Rattle.ep_core.specs.Program.{Program}
use Rattle.ep_core.specs.Runs.{Side, left, right}
use Rattle.ep_equalities.specs.declared.pair.Mode.TheVariants.{Both}
use Rattle.ep_evaluation.specs.Given.{cells_of}
use Rattle.ep_evaluation.specs.Laws.{IsState}
use Rattle.ep_transfers.specs.Transfers.{input_pair}
use Rattle.ep_transfers.specs.Places.{Places, moved_places}
use Rattle.ep_transfers.specs.Writes.{Item, Underway, item_of, underway, write}
use Rattle.ep_movers.specs.Movers.{Held, Machine, bytes_in, byte_written, remembers, taken}
use Rattle.ep_movers.specs.Symbols.{input_byte, is_set}
use Rattle.ep_mover_bits.specs.Laws.{Inputs}
use Rattle.ep_mover_cells.specs.Known.{symbol_at, LiesInOne, IsSaid, IsInput}

-- the first byte of a block, on both sides
abbrev pub at_begin : (block : ℕ) → Places
at_begin b = record { left = (b, 0) ∷ []; right = (b, 0) ∷ [] }

module _ {N : Type 0} (D : Ops N) where
  -- an input of one byte, which goes to both machines
  abbrev pub input_item : Item N
  input_item = item_of D (input_pair D Both U8 (Int U8))

  -- an input goes to byte q of a block
  abbrev pub after_input : (b q : ℕ) → Known N → Underway N
  after_input b q k = write D Both true (Int U8) (moved_places q (at_begin b)) (underway k input_item)

  module _ (p : Program) (ord : Side → Order) where
    -- What is known while inputs go to a block of n bytes: as of `Moved`, but of that block the bytes below q alone are
    -- said, by cells that end there.
    pub record MovedBelow (base : Inputs) (ms : Side → Machine) (k : Known N) (b n q : ℕ) : Type 0 where
      pub state : IsState D p ord k
      pub said : (s : Side) (a r : ℕ) → is_set (symbol_at (bytes_in (ms s).memory a) r) ≡ true → (a ≡ b → r < q)
          → (v : IsSaid base (ord s) k.model k.cells (cells_of s) (bytes_in (ms s).memory a) a r)
          × (a ≡ b → v.cell.offset + size_of k.model v.cell.what ≤ q)
      pub whole : (x : Cell N) → IsIn x k.cells → LiesInOne p k.model x
      pub counts : (ms left).inputs ≡ (ms right).inputs
      pub inputs : (i : ℕ) → i < (ms left).inputs → IsInput base k.cells ms i
      pub own : (i j : ℕ) → i < (ms left).inputs → j < (ms left).inputs → base i ≡ base j → i ≡ j
      pub taken : (s : Side) (a r i j : ℕ) → symbol_at (bytes_in (ms s).memory a) r ≡ input_byte i j
          → i < (ms left).inputs
      pub ends : (s : Side) → length (bytes_in (ms s).memory b) ≤ n

-- It is said then, and what is still to be taken waits as it was.
abbrev pub InputBytesKeep : {N : Type 0} → Ops N → Type 0
InputBytesKeep {N = N} D =
    (p : Program) (ord : Side → Order) (base : Inputs) (ms : Side → Machine) (k : Known N) (b n q : ℕ) → q < n
    → n ≤ 2 ^ 32 → MovedBelow D p ord base ms k b n q → (hs : Side → List Held)
    → ((s : Side) → byte_written (bytes_in (ms s).memory b) q (input_byte (ms s).inputs 0) ≡ Ok (hs s))
    → (then_base : Inputs) × ((after_input D b q k).item ≡ input_item D)
    × MovedBelow D p ord then_base (λ s. taken (remembers (ms s) b (hs s)) 1) (after_input D b q k).known b n (suc q)
