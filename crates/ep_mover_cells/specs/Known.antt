-- What is known of two memories where a mover runs: of each byte that the text tells, its form (this project's rules).
use Rattle.std.specs.Prelude.{◌≡◌, ℕ, ◌+◌, ◌*◌, ◌<◌, ◌≤◌, Bool, true, false, List, get_or, slice_get, Option, Some}
use Rattle.std.specs.Prelude.{None, option_and_then, Ok}
use Rattle.ep_int.specs.declared.types.IntType.{IntType}
use Rattle.ep_int.specs.declared.types.Model.{Model}
use Rattle.ep_int.specs.declared.types.Order.{Order}
use Rattle.ep_int.specs.declared.types.Scalar.TheVariants.{Int as Number}
use Rattle.ep_int.specs.Types.{bytes_of, size_of}
use Rattle.ep_layout.specs.declared.types.Ty.{Ty}
use Rattle.ep_layout.specs.declared.types.Ty.TheVariants.{Void, Int, Ptr, Array, Aggregate}
use Rattle.ep_bitslice.specs.declared.cell.Side.{Side as CellSide}
use Rattle.ep_bitslice.specs.declared.cell.Side.TheVariants.{Shared}
use Rattle.ep_domain.specs.Domain.{Ops}
use Rattle.ep_cells.specs.declared.cell.Cell.{Cell}
use Rattle.ep_cells.specs.Cells.{IsIn, IsNamed}
use Rattle.ep_cells.specs.Look.{covers}
use Rattle.ep_cells.specs.States.{Known}
use Rattle.ep_reads.specs.Bytes.{form_of_cell}
use Rattle.ep_core.specs.Program.{Block, Program}
use Rattle.ep_core.specs.Runs.{Side, left, right}
use Rattle.ep_evaluation.specs.Given.{cells_of}
use Rattle.ep_evaluation.specs.Laws.{IsState}
use Rattle.ep_movers.specs.Symbols.{Symbol, unset, input_byte, is_set}
use Rattle.ep_movers.specs.Movers.{Held, held, Symbols, Machine, bytes_in, loaded_bytes}
use Rattle.ep_mover_bits.specs.Laws.{Inputs, HasBytes}

-- ---- bytes of a block

abbrev pub held_at : List Held → ℕ → Held
held_at hs q = get_or hs q (held unset false)

abbrev pub symbol_at : List Held → ℕ → Symbol
symbol_at hs q = (held_at hs q).symbol

-- ---- blocks of movers: one number, or an array of numbers

abbrev pub number_bytes : Option Ty → Option ℕ
number_bytes None = None
number_bytes (Some Void) = None
number_bytes (Some (Int t)) = Some (bytes_of t)
number_bytes (Some (Ptr e)) = None
number_bytes (Some (Array e n)) = None
number_bytes (Some (Aggregate a)) = None

module _ (p : Program) where
  -- how many bytes each number of a type has
  abbrev pub unit_of : Ty → Option ℕ
  unit_of Void = None
  unit_of (Int t) = Some (bytes_of t)
  unit_of (Ptr e) = None
  unit_of (Array e n) = number_bytes (slice_get p.types.types e)
  unit_of (Aggregate a) = None

  abbrev pub unit_in : (block : ℕ) → Option ℕ
  unit_in b =
      option_and_then (λ (x : Block). option_and_then unit_of (slice_get p.types.types x.ty)) (slice_get p.blocks b)

  -- n bytes lie in one number of a block
  pub record LieInOne (unit offset bytes : ℕ) : Type 0 where
    pub index : ℕ
    pub low : index * unit ≤ offset
    pub high : offset + bytes ≤ index * unit + unit

  abbrev pub LiesInOne : {N : Type 0} → Model → Cell N → Type 0
  LiesInOne d x = (u : ℕ) → unit_in x.block ≡ Some u → LieInOne u x.offset (size_of d x.what)

-- ---- cells

module _ {N : Type 0} (base : Inputs) where
  -- A cell surely has a number, and its form has the bytes that lie in its place (o is the order of the machine).
  pub record SaysBytes (o : Order) (hs : List Held) (x : Cell N) : Type 0 where
    pub t : IntType
    pub what : x.what ≡ Number t
    pub sure : x.maybe ≡ false
    pub bytes : List Symbol
    pub lie : loaded_bytes o hs x.offset (bytes_of t) 0 (bytes_of t) ≡ Ok bytes
    pub form : HasBytes base (form_of_cell x) bytes

  -- a byte of a side is in such a cell
  pub record IsSaid (o : Order) (d : Model) (cs : List (Cell N)) (s : CellSide) (hs : List Held) (b q : ℕ) : Type 0
    where
      pub cell : Cell N
      pub is_in : IsIn cell cs
      pub has : covers d s b q cell ≡ true
      pub says : SaysBytes o hs cell

  -- the cell of an input, which no statement writes any more
  pub record IsInput (cs : List (Cell N)) (ms : Side → Machine) (i : ℕ) : Type 0 where
    pub cell : Cell N
    pub is_in : IsIn cell cs
    pub named : IsNamed (base i) cell
    pub shared : cell.side ≡ Shared
    pub formless : cell.form ≡ None
    pub sure : cell.maybe ≡ false
    pub written : (s : Side) (j : ℕ) → j < bytes_of (base i).t
        → (held_at (bytes_in (ms s).memory (base i).block) ((base i).offset + j)).written ≡ true

-- ---- states

-- What is known of the two machines of a mover, of which the text tells the bytes: each byte that is set is said by
-- the cells of its side.
pub record Moved {N : Type 0} (D : Ops N) (p : Program) (ord : Side → Order) (base : Inputs) (ms : Side → Machine)
    (k : Known N) : Type 0 where
  pub state : IsState D p ord k
  pub said : (s : Side) (b q : ℕ) → is_set (symbol_at (bytes_in (ms s).memory b) q) ≡ true
      → IsSaid base (ord s) k.model k.cells (cells_of s) (bytes_in (ms s).memory b) b q
  pub whole : (x : Cell N) → IsIn x k.cells → LiesInOne p k.model x
  -- both machines have taken the same inputs, each of which has a cell of its own
  pub counts : (ms left).inputs ≡ (ms right).inputs
  pub inputs : (i : ℕ) → i < (ms left).inputs → IsInput base k.cells ms i
  pub own : (i j : ℕ) → i < (ms left).inputs → j < (ms left).inputs → base i ≡ base j → i ≡ j
  pub taken : (s : Side) (b q i j : ℕ) → symbol_at (bytes_in (ms s).memory b) q ≡ input_byte i j → i < (ms left).inputs
