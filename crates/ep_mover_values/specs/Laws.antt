-- Expressions and places of movers (this project's rules).
use Rattle.std.specs.Prelude.{◌≡◌, ℕ, ℤ, true, false, List, [], length, slice_get, Some, Ok}
use Rattle.ep_int.specs.declared.types.IntType.{IntType}
use Rattle.ep_int.specs.declared.types.Order.{Order}
use Rattle.ep_int.specs.declared.types.Scalar.TheVariants.{Int}
use Rattle.ep_int.specs.Types.{bytes_of, is_signed}
use Rattle.ep_int.specs.Memory.{Value as Datum, pointer, has}
use Rattle.ep_domain.specs.Domain.{Ops, IsSingle}
use Rattle.ep_cells.specs.declared.cell.Value.TheVariants.{Num}
use Rattle.ep_cells.specs.States.{Known}
use Rattle.ep_cells.specs.Meaning.{Memories}
use Rattle.ep_core.specs.Program.{Expr, Place, Program}
use Rattle.ep_core.specs.Exec.{value, address}
use Rattle.ep_core.specs.Runs.{Side}
use Rattle.ep_core.specs.WellFormed.{integer, has_scalar, place_has, has_sort, blocks_fit}
use Rattle.ep_equalities.specs.declared.pair.Mode.{Mode}
use Rattle.ep_equalities.specs.declared.pair.SideValue.{SideValue}
use Rattle.ep_evaluation.specs.Given.{Given, runs, on}
use Rattle.ep_evaluation.specs.Evaluation.{expression, place}
use Rattle.ep_evaluation.specs.Laws.{memory_of, sizes_of, IsKept}
use Rattle.ep_movers.specs.Symbols.{Symbol, fixed_bytes}
use Rattle.ep_movers.specs.Forms.{is_moved_place, is_moving}
use Rattle.ep_movers.specs.Movers.{Machine, symbols, place_of}
use Rattle.ep_mover_bits.specs.Laws.{Inputs, HasBytes}
use Rattle.ep_mover_cells.specs.Known.{Moved}
use Rattle.ep_single_places.specs.Laws.{IsOneInto}
use Rattle.ep_mover_values.specs.Naturals.{IsNatural, KeepsNaturals}

-- ---- what is given

module _ {N : Type 0} (D : Ops N) where
  -- a number that isn't negative, whose form has these bytes
  pub record IsOfBytes (base : Inputs) (t : IntType) (x : SideValue N) (xs : List Symbol) : Type 0 where
    pub n : N
    pub value : x.value ≡ Some (Num n)
    pub natural : IsNatural D t n
    pub form : HasBytes base x.form xs
    pub long : length xs ≡ bytes_of t

  -- on each running side, without a fault
  pub record GivesBytes (base : Inputs) (t : IntType) (mode : Mode) (x : Given N) (xs : Side → List Symbol) : Type 0
    where
      pub quiet : x.faults ≡ []
      pub each : (s : Side) → runs mode s ≡ true → IsOfBytes base t (on x.pair s) (xs s)

  -- this place alone
  pub record IsAt (mode : Mode) (x : Given N) (b q : ℕ) : Type 0 where
    pub quiet : x.faults ≡ []
    pub equal : x.pair.equal ≡ true
    pub each : (s : Side) → runs mode s ≡ true → IsOneInto D (on x.pair s).value b q

-- ---- the laws

module _ {N : Type 0} (D : Ops N) (p : Program) (ord : Side → Order) where
  -- what is known of both machines, and of these two memories
  pub record IsMoving (base : Inputs) (ms : Side → Machine) (k : Known N) (m : Memories) : Type 0 where
    pub moved : Moved D p ord base ms k
    pub kept : IsKept D p ord k m

  module _ (seen : List ℕ) where
    -- the numbers in places of a mover are unsigned
    abbrev pub ArePlacesUnsigned : Type 0
    ArePlacesUnsigned =
        (a : Place) (ty : ℕ) (t : IntType) → is_moved_place a ≡ true → place_has p.types p.blocks seen a ty ≡ true
        → has_scalar (slice_get p.types.types ty) (Int t) ≡ true → is_signed t ≡ false

    -- a single number has fixed bytes, as inputs may be any
    abbrev pub AreSinglesFixed : (ms : Side → Machine) (k : Known N) → Type 0
    AreSinglesFixed ms k =
        (e : Expr) (t : IntType) → is_moving e ≡ true → has_sort p.types p.blocks seen e (integer t) ≡ true
        → (mode : Mode) → ((expression D (sizes_of p.blocks) e).gives mode k).faults ≡ [] → (s : Side)
        → runs mode s ≡ true → (xs : List Symbol) → symbols (ord s) (ms s).memory e ≡ Ok xs → (n : N) (z : ℤ)
        → (on ((expression D (sizes_of p.blocks) e).gives mode k).pair s).value ≡ Some (Num n) → IsSingle D n z
        → xs ≡ fixed_bytes z 0 (bytes_of t)

abbrev pub PlacesAreAt : {N : Type 0} → Ops N → Type 0
PlacesAreAt {N = N} D =
    (p : Program) (ord : Side → Order) → blocks_fit p.types p.blocks ≡ true → (seen : List ℕ) (a : Place) (ty : ℕ)
    → is_moved_place a ≡ true → place_has p.types p.blocks seen a ty ≡ true → (k : Known N) (m : Memories)
    → IsKept D p ord k m → (b q : ℕ) → place_of a ≡ Ok (b, q) → (mode : Mode)
    → ((s : Side) → runs mode s ≡ true → (v : Datum) × (address (ord s) p a (memory_of s m) ≡ has v))
    → IsAt D mode (place D (sizes_of p.blocks) a mode k) b q

abbrev pub ExpressionsGiveBytes : {N : Type 0} → Ops N → Type 0
ExpressionsGiveBytes {N = N} D =
    KeepsNaturals D → (p : Program) (ord : Side → Order) → blocks_fit p.types p.blocks ≡ true → (seen : List ℕ)
    → ArePlacesUnsigned D p ord seen → (base : Inputs) (ms : Side → Machine) (k : Known N) (m : Memories)
    → IsMoving D p ord base ms k m → AreSinglesFixed D p ord seen ms k → (e : Expr) (t : IntType)
    → is_moving e ≡ true → has_sort p.types p.blocks seen e (integer t) ≡ true → (mode : Mode)
    → (xs : Side → List Symbol)
    → ((s : Side) → runs mode s ≡ true → symbols (ord s) (ms s).memory e ≡ Ok (xs s))
    → ((s : Side) → runs mode s ≡ true → (v : Datum) × (value (ord s) p e (memory_of s m) ≡ has v))
    → GivesBytes D base t mode ((expression D (sizes_of p.blocks) e).gives mode k) xs
