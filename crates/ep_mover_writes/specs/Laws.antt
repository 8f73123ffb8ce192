-- A number is written at one place, on one machine or on both (C11 6.5.16p3; this project's rules).
use Rattle.std.specs.Prelude.{◌≡◌, ℕ, ◌+◌, ◌*◌, ◌<◌, ◌≤◌, Bool, true, false, List, [], ◌∷◌, length, slice_get}
use Rattle.std.specs.Prelude.{slice_set, Some, None, Ok}
use Rattle.ep_int.specs.declared.types.IntType.{IntType}
use Rattle.ep_int.specs.declared.types.Order.{Order}
use Rattle.ep_int.specs.declared.types.Scalar.TheVariants.{Int}
use Rattle.ep_int.specs.Types.{bytes_of}
use Rattle.ep_bitslice.specs.declared.cell.Side.{Side as CellSide}
use Rattle.ep_bitslice.specs.declared.cell.Side.TheVariants.{Shared}
use Rattle.ep_bitslice.specs.declared.segment.Segment.{Segment}
use Rattle.ep_domain.specs.Domain.{Ops}
use Rattle.ep_cells.specs.declared.cell.Cell.{Cell}
use Rattle.ep_cells.specs.Cells.{IsNamed, place_of, share_memory}
use Rattle.ep_cells.specs.States.{Known}
use Rattle.ep_reads.specs.Bytes.{form_of_cell}
use Rattle.ep_cell_ranges.specs.Ranges.{replaced, form_by_replace}
use Rattle.ep_cell_ranges.specs.Sound.{IsPlaced, AreNew}
use Rattle.ep_core.specs.Program.{Program}
use Rattle.ep_core.specs.Runs.{Side, left, right}
use Rattle.ep_evaluation.specs.Given.{cells_of}
use Rattle.ep_evaluation.specs.Operators.{Form}
use Rattle.ep_movers.specs.Symbols.{Symbol, input_byte}
use Rattle.ep_movers.specs.Movers.{Held, Machine, bytes_in, bytes_written}
use Rattle.ep_mover_bits.specs.Laws.{Inputs, HasBytes}
use Rattle.ep_mover_cells.specs.Known.{unit_in, Moved}

-- a number of so many bytes begins here in a block
pub record IsNumberAt (p : Program) (b q bytes : ℕ) : Type 0 where
  pub unit : unit_in p b ≡ Some bytes
  pub index : ℕ
  pub at : index * bytes ≡ q

-- A machine after these bytes of a number are written at a place, where they are written here; else its memory is as
-- it was. So many more inputs were taken.
pub record IsWrittenAt (o : Order) (t : IntType) (b q : ℕ) (xs : List Symbol) (more : ℕ) (here : Bool) (m n : Machine)
    : Type 0 where
  pub bytes : List Held
  pub written : here ≡ true → bytes_written o q (bytes_of t) 0 xs (bytes_in m.memory b) ≡ Ok bytes
  pub memory : here ≡ true → n.memory ≡ slice_set m.memory b bytes
  pub stays : here ≡ false → n.memory ≡ m.memory
  pub inputs : n.inputs ≡ m.inputs + more

-- these bytes are of inputs that were taken
abbrev pub AreTaken : (count : ℕ) → List Symbol → Type 0
AreTaken n xs = (j i k : ℕ) → slice_get xs j ≡ Some (input_byte i k) → i < n

module _ {N : Type 0} (D : Ops N) (p : Program) (ord : Side → Order) (base : Inputs) (ms : Side → Machine)
    (k : Known N) where
  -- A new cell at the place, with the form of these bytes. If it takes an input, it is the cell of that.
  pub record IsNewCell (s : CellSide) (b q : ℕ) (t : IntType) (xs : List Symbol) (more : ℕ) (c : Cell N) : Type 0 where
    pub placed : IsPlaced s b q (Int t) c
    pub sure : c.maybe ≡ false
    pub form : HasBytes base (form_of_cell c) xs
    pub long : length xs ≡ bytes_of t
    pub stored : (ss : List Segment) → c.form ≡ Some ss → AreTaken (ms left).inputs xs
    pub taken : AreTaken ((ms left).inputs + more) xs
    pub input : (i : ℕ) → (ms left).inputs ≤ i → i < (ms left).inputs + more
        → (s ≡ Shared) × (c.form ≡ None) × IsNamed (base i) c
    pub few : more ≤ 1
    pub new : AreNew k.model (place_of k.model c) k.cells (c ∷ [])

  -- what is known of the machines after the write, and of a form that still waits for the other side
  pub record IsWellWritten (ns : Side → Machine) (c : Cell N) : Type 0 where
    pub moved : Moved D p ord base ns (replaced D (place_of k.model c) (c ∷ []) k)
    pub waits : (f : Form) (ys : List Symbol) → HasBytes base f ys → AreTaken (ms left).inputs ys
        → form_by_replace D (place_of k.model c) k f ≡ f

abbrev pub WritesKeepBytes : {N : Type 0} → Ops N → Type 0
WritesKeepBytes {N = N} D =
    (p : Program) (ord : Side → Order) (base : Inputs) (ms ns : Side → Machine) (k : Known N)
    → Moved D p ord base ms k → (s : CellSide) (b q : ℕ) (t : IntType) → IsNumberAt p b q (bytes_of t)
    → (xs : List Symbol) (more : ℕ) (c : Cell N) → IsNewCell D p ord base ms k s b q t xs more c
    → ((i : Side) → IsWrittenAt (ord i) t b q xs more (share_memory s (cells_of i)) (ms i) (ns i))
    → IsWellWritten D p ord base ms k ns c

-- which cells have the inputs that weren't taken says nothing
abbrev pub OtherInputsDontCount : {N : Type 0} → Ops N → Type 0
OtherInputsDontCount {N = N} D =
    (p : Program) (ord : Side → Order) (base other : Inputs) (ms : Side → Machine) (k : Known N)
    → Moved D p ord base ms k → ((i : ℕ) → i < (ms left).inputs → other i ≡ base i) → Moved D p ord other ms k
