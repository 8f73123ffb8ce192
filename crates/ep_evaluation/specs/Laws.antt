-- The laws of evaluation: what it gives holds of what the machines find, and what assuming a truth leaves holds of the
-- memories in which an expression has it.
use Rattle.std.specs.Prelude.{◌≡◌, ℕ, ℤ, Bool, true, false, not, List, [], map, Option, Some, None, IfSome}
use Rattle.ep_int.specs.declared.types.Order.{Order}
use Rattle.ep_int.specs.declared.types.Scalar.{Scalar}
use Rattle.ep_int.specs.declared.types.Scalar.TheVariants.{Pointer}
use Rattle.ep_int.specs.Memory.{Memory, Value as Datum, int, Found, has}
use Rattle.ep_domain.specs.Domain.{Ops, IsSingle}
use Rattle.ep_pointers.specs.Value.{null_alone, one_target}
use Rattle.ep_cells.specs.declared.cell.Cell.{Cell}
use Rattle.ep_cells.specs.declared.cell.Value.{Value}
use Rattle.ep_cells.specs.declared.cell.Value.TheVariants.{Num, Ptr}
use Rattle.ep_cells.specs.Cells.{IsIn}
use Rattle.ep_cells.specs.States.{Known, AreCells, IsOfSort, HasRisingBlocks}
use Rattle.ep_cells.specs.Meaning.{Memories, Allows, StandsAt, numbers_of, In}
use Rattle.ep_reads.specs.Laws.{IsFormRead}
use Rattle.ep_core.specs.Program.{Expr, logical_and, logical_or, conditional, Place, Block, Program}
use Rattle.ep_core.specs.Exec.{is_true, value, address}
use Rattle.ep_core.specs.Runs.{Side, left, right}
use Rattle.ep_core.specs.WellFormed.{Sort, has_sort, place_has, blocks_fit, is_tested}
use Rattle.ep_core.specs.Typed.{MemoryFits, scalar_of}
use Rattle.ep_equalities.specs.declared.pair.Mode.{Mode}
use Rattle.ep_equalities.specs.declared.pair.Mode.TheVariants.{Both, Left, Right}
use Rattle.ep_equalities.specs.declared.pair.Fault.{Fault}
use Rattle.ep_equalities.specs.declared.pair.SideValue.{SideValue}
use Rattle.ep_equalities.specs.Pairs.{SideIn, PairIn}
use Rattle.ep_pass.specs.States.{Tested}
use Rattle.ep_pass.specs.Laws.{IsTruth, Truths, TruthAlone}
use Rattle.ep_evaluation.specs.Given.{Given, runs, on, alone, are_sure}
use Rattle.ep_evaluation.specs.Evaluation.{Means, Reaches, expression, place, tested, test_taken, test_taken_by}

abbrev pub memory_of : Side → Memories → Memory
memory_of left m = m.left
memory_of right m = m.right

abbrev pub sizes_of : List Block → List ℕ
sizes_of bs = map (λ (b : Block). b.size) bs

-- a machine's memory, and what it finds
abbrev pub Machine : Type 0
Machine = Memory → Found

-- Where one side runs, what is surely read is relied on, whatever else may go wrong. Where both do, one of them may be
-- undefined where the other isn't, and nothing is relied on beside a fault.
abbrev pub IsReliable : Mode → List Fault → Type 0
IsReliable Both fs = fs ≡ []
IsReliable Left fs = are_sure fs ≡ true
IsReliable Right fs = are_sure fs ≡ true

module _ {N : Type 0} (D : Ops N) (p : Program) (ord : Side → Order) where
  -- what is known is a state of machines that run this program
  pub record IsState (k : Known N) : Type 0 where
    pub orders : k.orders ≡ (ord left, ord right)
    pub model : k.model ≡ p.types.model
    pub cells : AreCells k.model k.cells

  abbrev pub IfState : Option (Known N) → Type 0
  IfState k = IfSome k IsState

  -- and holds of these memories
  pub record IsKept (k : Known N) (m : Memories) : Type 0 where
    pub state : IsState k
    pub holds : In D k m
    pub fits : (s : Side) → MemoryFits p (memory_of s m)

  abbrev pub IfKept : Option (Known N) → Memories → Type 0
  IfKept None m = ⊥
  IfKept (Some k) m = IsKept k m

  -- what a side has fits what is known: it may be the value and the form of a cell
  pub record SideFits (k : Known N) (w : Scalar) (x : SideValue N) : Type 0 where
    pub sort : IsOfSort w x.value
    pub rising : HasRisingBlocks x.value
    pub form : IfSome x.form (IsFormRead k.cells w false)

  -- What evaluation gives of values of a type, where the machines find these.
  pub record Holds (w : Scalar) (f : Side → Found) (k : Known N) (m : Memories) (mode : Mode) (x : Given N) : Type 0
    where
      -- of what is relied on, a value that is found is among those known
      pub held : IsReliable mode x.faults → (s : Side) → runs mode s ≡ true → (v : Datum) → f s ≡ has v
          → SideIn D (numbers_of k.orders m) w (on x.pair s) v
      -- without a fault, each running machine finds one
      pub found : x.faults ≡ [] → (s : Side) → runs mode s ≡ true → (v : Datum) × (f s ≡ has v)
      -- both find the same
      pub same : mode ≡ Both → x.faults ≡ [] → x.pair.equal ≡ true → (u v : Datum) → f left ≡ has u
          → f right ≡ has v → u ≡ v

  -- The value is that of a cell that surely has one.
  pub record IsOfCell (k : Known N) (m : Memories) (c : Cell N) (v : Datum) : Type 0 where
    pub is_in : IsIn c k.cells
    pub sure : c.maybe ≡ false
    pub stands : StandsAt k.orders k.model m c (Some v)
    pub allowed : Allows D c.what c.value false (Some v)

  -- an expression of a type, of which the machine of a side finds this
  pub record Sound (w : Scalar) (f : Side → Machine) (a : Means N) : Type 0 where
    pub gives : (k : Known N) (m : Memories) → IsKept k m → (mode : Mode)
        → Holds w (λ s. f s (memory_of s m)) k m mode (a.gives mode k)
    pub assumes : (k : Known N) (m : Memories) → IsKept k m → (s : Side) (t : Bool) (v : Datum)
        → f s (memory_of s m) ≡ has v → is_true v ≡ t → IfKept (a.assumes s t k) m
    pub cell : (k : Known N) (m : Memories) → IsKept k m → (s : Side) (v : Datum) → f s (memory_of s m) ≡ has v
        → IfSome (a.cell s k) (λ c. IsOfCell k m c v)
    -- of states alone, whatever memories are in them
    pub fits : (k : Known N) → IsState k → (mode : Mode) (s : Side) → SideFits k w (on (a.gives mode k).pair s)
    pub stays : (k : Known N) → IsState k → (s : Side) (t : Bool) → IfState (a.assumes s t k)
    pub there : (k : Known N) → IsState k → (s : Side) → IfSome (a.cell s k) (λ c. IsIn c k.cells)

  -- a place, at whose address the machine of a side finds this
  pub record SoundPlace (f : Side → Machine) (a : Reaches N) : Type 0 where
    pub gives : (k : Known N) (m : Memories) → IsKept k m → (mode : Mode)
        → Holds Pointer (λ s. f s (memory_of s m)) k m mode (a mode k)
    pub fits : (k : Known N) → IsState k → (mode : Mode) (s : Side) → SideFits k Pointer (on (a mode k).pair s)

  -- ---- the laws, of the expressions and places of a program

  abbrev pub ExpressionsHold : Type 0
  ExpressionsHold = blocks_fit p.types p.blocks ≡ true → (seen : List ℕ) (e : Expr) (x : Sort)
      → has_sort p.types p.blocks seen e x ≡ true
      → Sound (scalar_of x) (λ s. value (ord s) p e) (expression D (sizes_of p.blocks) e)

  abbrev pub PlacesHold : Type 0
  PlacesHold = blocks_fit p.types p.blocks ≡ true → (seen : List ℕ) (a : Place) (ty : ℕ)
      → place_has p.types p.blocks seen a ty ≡ true
      → SoundPlace (λ s. address (ord s) p a) (place D (sizes_of p.blocks) a)

  -- where some memories are in the state, a running side without a value has a fault
  abbrev pub HasFault : (k : Known N) (m : Memories) → (Mode → Given N) → Type 0
  HasFault k m gives = IsKept k m → (mode : Mode) (s : Side) → runs mode s ≡ true
      → (on (gives mode).pair s).value ≡ None → (gives mode).faults ≡ [] → ⊥

  -- without a fault, what is known of both holds of the values of the running machines
  abbrev pub HasPair : Scalar → (Side → Machine) → (k : Known N) (m : Memories) → (Mode → Given N) → Type 0
  HasPair w f k m gives = IsKept k m → (mode : Mode) → (gives mode).faults ≡ [] → (u v : Datum)
      → (runs mode left ≡ true → f left m.left ≡ has u) → (runs mode right ≡ true → f right m.right ≡ has v)
      → PairIn D (numbers_of k.orders m) mode w (gives mode).pair u v

  abbrev pub ValuesPair : Type 0
  ValuesPair = blocks_fit p.types p.blocks ≡ true → (seen : List ℕ) (e : Expr) (x : Sort)
      → has_sort p.types p.blocks seen e x ≡ true → (k : Known N) (m : Memories)
      → HasPair (scalar_of x) (λ s. value (ord s) p e) k m (λ mode. (expression D (sizes_of p.blocks) e).gives mode k)

  abbrev pub PlacesPair : Type 0
  PlacesPair = blocks_fit p.types p.blocks ≡ true → (seen : List ℕ) (a : Place) (ty : ℕ)
      → place_has p.types p.blocks seen a ty ≡ true → (k : Known N) (m : Memories)
      → HasPair Pointer (λ s. address (ord s) p a) k m (λ mode. place D (sizes_of p.blocks) a mode k)

  abbrev pub MissingValuesFault : Type 0
  MissingValuesFault = blocks_fit p.types p.blocks ≡ true → (seen : List ℕ) (e : Expr) (x : Sort)
      → has_sort p.types p.blocks seen e x ≡ true
      → (k : Known N) (m : Memories) → HasFault k m (λ mode. (expression D (sizes_of p.blocks) e).gives mode k)

  abbrev pub MissingPlacesFault : Type 0
  MissingPlacesFault = blocks_fit p.types p.blocks ≡ true → (seen : List ℕ) (a : Place) (ty : ℕ)
      → place_has p.types p.blocks seen a ty ≡ true
      → (k : Known N) (m : Memories) → HasFault k m (λ mode. place D (sizes_of p.blocks) a mode k)

  -- ---- tests

  -- of a test of this program, in a state that holds of two memories
  module _ (e : Expr) where
    abbrev pub means : Means N
    means = expression D (sizes_of p.blocks) e

    abbrev pub told_by : Mode → Known N → Tested
    told_by mode k = tested D mode (means.gives mode k)

    pub record TestHolds (k : Known N) (m : Memories) : Type 0 where
      -- without a fault, the running sides have truths, and of them holds what is told
      pub truths : (told_by Both k).faults ≡ [] → Truths p ord e (told_by Both k).verdict m.left m.right
      pub truth_alone : (s : Side) → (told_by (alone s) k).faults ≡ []
          → TruthAlone p (ord s) e (told_by (alone s) k).verdict (memory_of s m)
      -- and where they have these truths, the state that assumes them holds
      pub assumed : (told_by Both k).faults ≡ [] → (t u : Bool) → IsTruth p (ord left) e m.left t
          → IsTruth p (ord right) e m.right u → IfKept (test_taken D means t u k) m
      pub assumed_alone : (s : Side) → (told_by (alone s) k).faults ≡ [] → (t : Bool)
          → IsTruth p (ord s) e (memory_of s m) t → IfKept (test_taken_by D s means t k) m

    -- what is assumed is a state, whatever memories are in it
    pub record TestStays (k : Known N) : Type 0 where
      pub stays : (t u : Bool) → IfState (test_taken D means t u k)
      pub stays_alone : (s : Side) (t : Bool) → IfState (test_taken_by D s means t k)

  abbrev pub TestsHold : Type 0
  TestsHold = blocks_fit p.types p.blocks ≡ true → (seen : List ℕ) (e : Expr)
      → is_tested p.types p.blocks seen e ≡ true → (k : Known N) (m : Memories) → IsKept k m → TestHolds e k m

  abbrev pub TestsStay : Type 0
  TestsStay = blocks_fit p.types p.blocks ≡ true → (seen : List ℕ) (e : Expr)
      → is_tested p.types p.blocks seen e ≡ true → (k : Known N) → IsState k → TestStays e k

-- ---- values of one truth alone

-- A value is a single number, or a pointer with one member, of this truth.
pub data IsOnly {N : Type 0} (D : Ops N) (t : Bool) : Option (Value N) → Type 0 where
  only_number : (n : N) (z : ℤ) → IsSingle D n z → is_true (int z) ≡ t → IsOnly D t (Some (Num n))
  only_null : t ≡ false → IsOnly D t (Some (Ptr null_alone))
  only_place : (b : ℕ) (n : N) (q : ℤ) → IsSingle D n q → t ≡ true → IsOnly D t (Some (Ptr (one_target b n)))

-- on each running side
abbrev pub AreOnly : {N : Type 0} → Ops N → Mode → Bool → Given N → Type 0
AreOnly D mode t x = (s : Side) → runs mode s ≡ true → IsOnly D t (on x.pair s).value

pub record OnlyLaws {N : Type 0} (D : Ops N) : Type 0 where
  -- a test whose value on a running side is of the other truth alone is never assumed
  pub refused_left : (a : Means N) (t u : Bool) (k : Known N) → IsOnly D (not t) (on (a.gives Both k).pair left).value
      → test_taken D a t u k ≡ None
  pub refused_right : (a : Means N) (t u : Bool) (k : Known N)
      → IsOnly D (not u) (on (a.gives Both k).pair right).value → test_taken D a t u k ≡ None
  pub refused_alone : (a : Means N) (s : Side) (t : Bool) (k : Known N)
      → IsOnly D (not t) (on (a.gives (alone s) k).pair s).value → test_taken_by D s a t k ≡ None
  -- an operand that C doesn't evaluate adds no fault, whatever it is
  pub unevaluated_and : (sizes : List ℕ) (a b : Expr) (mode : Mode) (k : Known N)
      → AreOnly D mode false ((expression D sizes a).gives mode k)
      → ((expression D sizes (logical_and a b)).gives mode k).faults ≡ ((expression D sizes a).gives mode k).faults
  pub unevaluated_or : (sizes : List ℕ) (a b : Expr) (mode : Mode) (k : Known N)
      → AreOnly D mode true ((expression D sizes a).gives mode k)
      → ((expression D sizes (logical_or a b)).gives mode k).faults ≡ ((expression D sizes a).gives mode k).faults
  pub unevaluated_second : (sizes : List ℕ) (e a b c : Expr) (mode : Mode) (k : Known N)
      → AreOnly D mode false ((expression D sizes e).gives mode k)
      → ((expression D sizes (conditional e a b)).gives mode k).faults
      ≡ ((expression D sizes (conditional e c b)).gives mode k).faults
  pub unevaluated_third : (sizes : List ℕ) (e a b c : Expr) (mode : Mode) (k : Known N)
      → AreOnly D mode true ((expression D sizes e).gives mode k)
      → ((expression D sizes (conditional e a b)).gives mode k).faults
      ≡ ((expression D sizes (conditional e a c)).gives mode k).faults

-- ---- all of them, of any program and any two orders

pub record EvaluationLaws {N : Type 0} (D : Ops N) : Type 0 where
  pub expressions : (p : Program) (ord : Side → Order) → ExpressionsHold D p ord
  pub places : (p : Program) (ord : Side → Order) → PlacesHold D p ord
  pub value_pairs : (p : Program) (ord : Side → Order) → ValuesPair D p ord
  pub place_pairs : (p : Program) (ord : Side → Order) → PlacesPair D p ord
  pub missing_values : (p : Program) (ord : Side → Order) → MissingValuesFault D p ord
  pub missing_places : (p : Program) (ord : Side → Order) → MissingPlacesFault D p ord

pub record TestLaws {N : Type 0} (D : Ops N) : Type 0 where
  pub hold : (p : Program) (ord : Side → Order) → TestsHold D p ord
  pub stay : (p : Program) (ord : Side → Order) → TestsStay D p ord
