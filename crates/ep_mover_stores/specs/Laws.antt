-- A value goes to one place of each running side (C11 6.5.16p3; this project's rules).
use Rattle.std.specs.Prelude.{◌≡◌, ℕ, ◌+◌, ◌^◌, ◌≤◌, Bool, true, List, [], nat_eq, if◌then◌else◌, Some}
use Rattle.ep_int.specs.declared.types.IntType.{IntType}
use Rattle.ep_int.specs.declared.types.Order.{Order}
use Rattle.ep_int.specs.declared.types.Scalar.TheVariants.{Int}
use Rattle.ep_int.specs.Types.{bytes_of}
use Rattle.ep_bitslice.specs.declared.cell.CellName.{CellName}
use Rattle.ep_bitslice.specs.declared.cell.Side.TheVariants.{Shared}
use Rattle.ep_domain.specs.Domain.{Ops}
use Rattle.ep_cells.specs.States.{Known}
use Rattle.ep_core.specs.Program.{Program}
use Rattle.ep_core.specs.Runs.{Side, left, right}
use Rattle.ep_equalities.specs.declared.pair.Mode.{Mode}
use Rattle.ep_equalities.specs.declared.pair.Mode.TheVariants.{Both}
use Rattle.ep_equalities.specs.declared.pair.PairValue.{PairValue}
use Rattle.ep_equalities.specs.Same.{is_same}
use Rattle.ep_evaluation.specs.Given.{runs, on}
use Rattle.ep_evaluation.specs.Laws.{sizes_of, SideFits}
use Rattle.ep_movers.specs.Symbols.{Symbol}
use Rattle.ep_movers.specs.Movers.{Machine, input_bytes}
use Rattle.ep_mover_bits.specs.Laws.{Inputs}
use Rattle.ep_mover_cells.specs.Known.{Moved}
use Rattle.ep_mover_values.specs.Laws.{IsOfBytes}
use Rattle.ep_mover_writes.specs.Laws.{IsNumberAt, IsWrittenAt, AreTaken}
use Rattle.ep_single_places.specs.Laws.{IsOneAccess}
use Rattle.ep_transfers.specs.Transfers.{Stepped, stepped, input_pair, assigned}

-- the next input is in this cell
abbrev pub with_input : Inputs → (input : ℕ) → CellName → Inputs
with_input base n c i = if nat_eq i n then c else base i

module _ {N : Type 0} (D : Ops N) (p : Program) (ord : Side → Order) where
  -- an access of so many bytes at one place of each running side, the same of all
  pub record IsAccess (mode : Mode) (to : PairValue N) (b q bytes : ℕ) : Type 0 where
    pub equal : to.equal ≡ true
    pub each : (s : Side) → runs mode s ≡ true → IsOneAccess D (sizes_of p.blocks) bytes (on to s) b q
    pub last : q + bytes ≤ 2 ^ 32

  -- numbers with these bytes, which are equal where both surely are the same
  pub record AreValues (base : Inputs) (ms : Side → Machine) (k : Known N) (mode : Mode) (t : IntType) (v : PairValue N)
      (xs : Side → List Symbol) : Type 0 where
    pub each : (s : Side) → runs mode s ≡ true → IsOfBytes D base t (on v s) (xs s)
    pub fits : (s : Side) → runs mode s ≡ true → SideFits D p ord k (Int t) (on v s)
    pub taken : (s : Side) → runs mode s ≡ true → AreTaken (ms left).inputs (xs s)
    pub same : mode ≡ Both → is_same D v ≡ true → xs left ≡ xs right

  -- nothing is wrong, and what comes next is known so of these machines
  pub record GoesOn (base : Inputs) (ns : Side → Machine) (x : Stepped N) : Type 0 where
    pub next : Known N
    pub is : x ≡ stepped [] (Some next)
    pub moved : Moved D p ord base ns next

abbrev pub StoresKeepBytes : {N : Type 0} → Ops N → Type 0
StoresKeepBytes {N = N} D =
    (p : Program) (ord : Side → Order) (base : Inputs) (ms ns : Side → Machine) (k : Known N)
    → Moved D p ord base ms k → (b q : ℕ) (t : IntType) → IsNumberAt p b q (bytes_of t) → (mode : Mode)
    (to v : PairValue N) (xs : Side → List Symbol) → IsAccess D p ord mode to b q (bytes_of t)
    → AreValues D p ord base ms k mode t v xs
    → ((i : Side) → IsWrittenAt (ord i) t b q (xs i) 0 (runs mode i) (ms i) (ns i))
    → GoesOn D p ord base ns (assigned D (sizes_of p.blocks) mode (Int t) to v k)

-- An input goes to the place on both machines.
abbrev pub TakesKeepBytes : {N : Type 0} → Ops N → Type 0
TakesKeepBytes {N = N} D =
    (p : Program) (ord : Side → Order) (base : Inputs) (ms ns : Side → Machine) (k : Known N)
    → Moved D p ord base ms k → (b q : ℕ) (t : IntType) → IsNumberAt p b q (bytes_of t) → (to : PairValue N)
    → IsAccess D p ord Both to b q (bytes_of t)
    → ((i : Side) → IsWrittenAt (ord i) t b q (input_bytes (ms left).inputs 0 (bytes_of t)) 1 true (ms i) (ns i))
    → GoesOn D p ord
    (with_input base (ms left).inputs (record { side = Shared; block = b; offset = q; t = t })) ns
    (assigned D (sizes_of p.blocks) Both (Int t) to (input_pair D Both t (Int t)) k)
