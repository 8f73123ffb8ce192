-- A value goes to the place of its address, where a state stands for one pair of memories alone (C11 6.5.16p3; this
-- project's rules).
use Rattle.std.specs.Prelude.{◌≡◌, ℕ, true, false, [], None}
use Rattle.ep_int.specs.declared.types.Order.{Order}
use Rattle.ep_int.specs.declared.types.Scalar.{Scalar}
use Rattle.ep_int.specs.declared.types.Scalar.TheVariants.{Pointer}
use Rattle.ep_int.specs.Memory.{Memory, Value as Datum, pointer, Found, has, stored, store_fault}
use Rattle.ep_domain.specs.Domain.{Ops}
use Rattle.ep_cells.specs.States.{Known}
use Rattle.ep_cells.specs.Meaning.{Memories}
use Rattle.ep_core.specs.Program.{Program}
use Rattle.ep_core.specs.Exec.{size_at}
use Rattle.ep_core.specs.Runs.{Side}
use Rattle.ep_core.specs.WellFormed.{blocks_fit}
use Rattle.ep_equalities.specs.declared.pair.Mode.{Mode}
use Rattle.ep_evaluation.specs.Given.{Given, runs, on}
use Rattle.ep_evaluation.specs.Laws.{memory_of, sizes_of, IsState, Holds, SideFits}
use Rattle.ep_transfers.specs.Transfers.{Stepped, assigned}
use Rattle.ep_closed_laws.specs.Exactly.{IsThere}
use Rattle.ep_singles.specs.Numbers.{KeepsSingles}
use Rattle.ep_singles.specs.Cells.{IsOne}
use Rattle.ep_single_given.specs.Laws.{IsOneGiven}
use Rattle.ep_single_narrowed.specs.Laws.{IsKeptOne}

-- A machine stores a value at a pointer, where there is room for it, and has the second memory after it.
pub record IsPutAt (p : Program) (o : Order) (w : Scalar) (address value : Found) (m n : Memory) : Type 0 where
  pub block : ℕ
  pub offset : ℕ
  pub datum : Datum
  pub at : address ≡ has (pointer block offset)
  pub is : value ≡ has datum
  pub stores : store_fault p.types.model (size_at o p block) w offset ≡ None
  pub after : (b j : ℕ) → n b j ≡ stored o p.types.model m w block offset datum b j

-- Each running machine stores its value at its address, and the other one's memory is as it was.
pub record ArePut (p : Program) (ord : Side → Order) (mode : Mode) (w : Scalar) (address value : Side → Found)
    (m n : Memories) : Type 0 where
  pub puts : (s : Side) → runs mode s ≡ true
      → IsPutAt p (ord s) w (address s) (value s) (memory_of s m) (memory_of s n)
  pub still : (s : Side) → runs mode s ≡ false → (b j : ℕ) → memory_of s n b j ≡ memory_of s m b j

module _ {N : Type 0} (D : Ops N) (p : Program) (ord : Side → Order) where
  -- an address and a value of a type are evaluated, of which each running side has one, without a fault
  pub record AreToPut (mode : Mode) (k : Known N) (m : Memories) (w : Scalar) (address value : Side → Found)
      (to v : Given N) : Type 0 where
    pub address_holds : Holds D p ord Pointer address k m mode to
    pub value_holds : Holds D p ord w value k m mode v
    pub fits : (s : Side) → SideFits D p ord k w (on v.pair s)
    pub one_address : IsOneGiven D mode to
    pub one_value : IsOneGiven D mode v

  -- no fault, and a state after it that stands for these memories alone
  pub record IsStepTo (n : Memories) (s : Stepped N) : Type 0 where
    pub quiet : s.faults ≡ []
    pub next : IsThere (λ k. IsState D p ord k × IsOne D k n) s.next

abbrev pub PutsKeepOne : {N : Type 0} → Ops N → Type 0
PutsKeepOne {N = N} D =
    KeepsSingles D → (p : Program) (ord : Side → Order) → blocks_fit p.types p.blocks ≡ true → (k : Known N)
    (m n : Memories) → IsKeptOne D p ord k m → (mode : Mode) (w : Scalar) (address value : Side → Found)
    (to v : Given N) → AreToPut D p ord mode k m w address value to v → ArePut p ord mode w address value m n
    → IsStepTo D p ord n (assigned D (sizes_of p.blocks) mode w to.pair v.pair k)
