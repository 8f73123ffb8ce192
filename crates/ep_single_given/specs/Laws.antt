-- What evaluation gives where a state stands for one pair of memories alone: without a fault, one value on each running
-- machine that finds one (C11 6.3.2.1, 6.5.1, 6.5.3.2; this project's rules).
use Rattle.std.specs.Prelude.{◌≡◌, ℕ, ℤ, true, List, []}
use Rattle.ep_int.specs.declared.types.IntType.{IntType}
use Rattle.ep_int.specs.declared.types.Order.{Order}
use Rattle.ep_int.specs.declared.types.Scalar.{Scalar}
use Rattle.ep_int.specs.Types.{InRange}
use Rattle.ep_int.specs.Memory.{Value as Datum, has, loaded, with_place}
use Rattle.ep_domain.specs.Domain.{Ops}
use Rattle.ep_pointers.specs.Value.{Pointers, HasOneMember}
use Rattle.ep_cells.specs.States.{Known}
use Rattle.ep_cells.specs.Meaning.{Memories}
use Rattle.ep_core.specs.Program.{Program}
use Rattle.ep_core.specs.Exec.{size_at}
use Rattle.ep_core.specs.Runs.{Side}
use Rattle.ep_equalities.specs.declared.pair.Mode.{Mode}
use Rattle.ep_evaluation.specs.Given.{Given, runs, on}
use Rattle.ep_evaluation.specs.Evaluation.{Reaches, constant_given, pointer_given, same_given, load_given}
use Rattle.ep_evaluation.specs.Laws.{memory_of, Machine, SoundPlace, sizes_of}
use Rattle.ep_singles.specs.Cells.{IsOneValue}
use Rattle.ep_single_narrowed.specs.Laws.{IsKeptOne}

-- each running machine finds something
abbrev pub FindAll : Mode → (Side → Machine) → Memories → Type 0
FindAll mode f m = (s : Side) → runs mode s ≡ true → (v : Datum) × (f s (memory_of s m) ≡ has v)

-- a scalar is loaded from where the address is
abbrev pub load_at : Program → (Side → Order) → Scalar → (Side → Machine) → Side → Machine
load_at p ord w f s m =
    with_place (f s m) (λ b q. loaded (ord s) p.types.model (size_at (ord s) p b) m w b q)

module _ {N : Type 0} (D : Ops N) where
  -- no fault, and a value that can be one alone on each running side
  pub record IsOneGiven (mode : Mode) (x : Given N) : Type 0 where
    pub quiet : x.faults ≡ []
    pub each : (s : Side) → runs mode s ≡ true → IsOneValue D (on x.pair s).value

  abbrev pub GivesOne : Program → (Side → Order) → (Side → Machine) → (Mode → Known N → Given N) → Type 0
  GivesOne p ord f g =
      (k : Known N) (m : Memories) → IsKeptOne D p ord k m → (mode : Mode) → FindAll mode f m
      → IsOneGiven mode (g mode k)

  abbrev pub ConstantsGiveOne : Type 0
  ConstantsGiveOne = (t : IntType) (v : ℤ) → InRange t v → (mode : Mode) → IsOneGiven mode (constant_given D t v mode)

  abbrev pub PointersGiveOne : Type 0
  PointersGiveOne = (p : Pointers N) → HasOneMember D p → (mode : Mode) → IsOneGiven mode (pointer_given D p mode)

  abbrev pub SamesGiveOne : Type 0
  SamesGiveOne =
      (sizes : List ℕ) (mode : Mode) (x : Given N) → IsOneGiven mode x → IsOneGiven mode (same_given D sizes mode x)

  abbrev pub LoadsGiveOne : Type 0
  LoadsGiveOne =
      (p : Program) (ord : Side → Order) (w : Scalar) (f : Side → Machine) (a : Reaches N) → SoundPlace D p ord f a
      → GivesOne p ord f a
      → GivesOne p ord (load_at p ord w f) (λ mode k. load_given D (sizes_of p.blocks) w mode k (a mode k))
