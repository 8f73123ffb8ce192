-- What the operations on states keep where each state stands for one pair of memories.
use Rattle.std.specs.Prelude.{◌≡◌, ◌⊎◌, ℕ, Bool, true, false, not, List, [], Option, Some, None, slice_get}
use Rattle.ep_int.specs.declared.types.Order.{Order}
use Rattle.ep_core.specs.Program.{Expr, Dest, Simple, Function, Program}
use Rattle.ep_core.specs.Exec.{State, on, uncounted, does, received}
use Rattle.ep_core.specs.Runs.{Side, left, right, main_ends}
use Rattle.ep_core.specs.WellFormed.{result_type, is_tested, simple_fits, arguments_fit, takes_result}
use Rattle.ep_pass.specs.States.{Both, One, StateOps}
use Rattle.ep_pass.specs.Laws.{passes, IsTruth, Fits, GoesOn}
use Rattle.ep_pass.specs.Pass.{way_of}
use Rattle.ep_kinds.specs.InOut.{is_input, is_talk}
use Rattle.ep_int.specs.Memory.{Memory, killed}
use Rattle.ep_core.specs.Runs.{initial}
use Rattle.ep_core.specs.Typed.{StateFits}
use Rattle.ep_closed_laws.specs.Exactly.{IsThere, IfLeft, IfBothLeft, TransferIsExact, SeenFrom, AreOverAlike}
use Rattle.ep_single_restricted.specs.Restricted.{restricted}

-- two machines with the memories that a state stands for, with equal outputs, and as the types of the program say
pub record ConcretisesOneTyped (p : Program) {S : Type 0} (ConcretisesOne : S → Memory → Memory → Type 0) (s : S)
    (x y : State) : Type 0 where
  pub memories : ConcretisesOne s x.memory y.memory
  pub outputs : x.outputs ≡ y.outputs
  pub left_fits : StateFits p x
  pub right_fits : StateFits p y

-- this side's memory, and then the other's
abbrev pub ConcretisesOneBeside : {S : Type 0} → (S → Memory → Memory → Type 0) → Side → S → Memory → Memory → Type 0
ConcretisesOneBeside ConcretisesOne left s m k = ConcretisesOne s m k
ConcretisesOneBeside ConcretisesOne right s m k = ConcretisesOne s k m

-- Where `ConcretisesOne s m k` says that a state stands for these two memories alone. A program begins with memories in
-- which what lies outside of all blocks counts as undefined: no access goes there.
pub record Closely (p : Program) (ord : Side → Order) {S : Type 0} (o : StateOps S)
    (ConcretisesOne : S → Memory → Memory → Type 0)
    : Type 0 where
  pub entry : ConcretisesOne o.entry (restricted p (initial (ord left) p)) (restricted p (initial (ord right) p))
  -- one machine alone
  pub simple_alone : (m : Side) (here : ℕ) (f : Function) → slice_get p.functions here ≡ Some f
      → (w : Simple) (seen : List ℕ) → simple_fits p here (result_type p.blocks f.result) w seen ≡ true
      → is_talk w ≡ false → (l n : ℕ) (s : S) (x y : State) → SeenFrom (ConcretisesOneTyped p ConcretisesOne) m s x y
      → IfLeft (way_of w) (λ x'. TransferIsExact (λ t. ConcretisesOneBeside ConcretisesOne m t x'.memory y.memory)
      (o.simple (One m) f.result w s))
      (does (ord m) p uncounted f.result w l n x)
  pub test_alone : (m : Side) (e : Expr) (seen : List ℕ) → is_tested p.types p.blocks seen e ≡ true
      → (t : Bool) (s : S) (x y : State) → SeenFrom (ConcretisesOneTyped p ConcretisesOne) m s x y →
      IsTruth p (ord m) e x.memory t
      → ((o.test (One m) e s).faults ≡ []) × GoesOn (o.test (One m) e s).verdict
  pub assume_alone : (m : Side) (e : Expr) (seen : List ℕ) → is_tested p.types p.blocks seen e ≡ true
      → (t : Bool) (s : S) (x y : State) → SeenFrom (ConcretisesOneTyped p ConcretisesOne) m s x y →
      IsTruth p (ord m) e x.memory t
      → IsThere (λ r. ConcretisesOneBeside ConcretisesOne m r x.memory y.memory) (o.assume_one m e t s)
      × (o.assume_one m e (not t) s ≡ None)
  pub arguments_alone : (m : Side) (k : ℕ) (f : Function) → slice_get p.functions k ≡ Some f
      → (es : List Expr) (seen : List ℕ) → arguments_fit p.types p.blocks seen f.params es ≡ true
      → (l n : ℕ) (s : S) (x y : State) → SeenFrom (ConcretisesOneTyped p ConcretisesOne) m s x y
      → IfLeft on (λ x'. TransferIsExact (λ t. ConcretisesOneBeside ConcretisesOne m t x'.memory y.memory)
      (o.arguments (One m) f es s))
      (passes (ord m) p f es l n x)
  pub result_alone : (m : Side) (k : ℕ) (f : Function) → slice_get p.functions k ≡ Some f
      → (d : Option Dest) (seen : List ℕ)
      → takes_result p.types p.blocks seen (result_type p.blocks f.result) d ≡ true
      → (l n : ℕ) (s : S) (x y : State) → SeenFrom (ConcretisesOneTyped p ConcretisesOne) m s x y
      → IfLeft on (λ x'. TransferIsExact (λ t. ConcretisesOneBeside ConcretisesOne m t x'.memory y.memory)
      (o.result (One m) f d s))
      (received (ord m) p f.result d l n x)
  pub enter_alone : (m : Side) (bs : List ℕ) (s : S) (j k : Memory) → ConcretisesOneBeside ConcretisesOne m s j k
      → ConcretisesOneBeside ConcretisesOne m (o.enter (One m) bs s) (killed bs j) k
  pub leave_alone : (m : Side) (bs : List ℕ) (s : S) (j k : Memory) → ConcretisesOneBeside ConcretisesOne m s j k
      → ConcretisesOneBeside ConcretisesOne m (o.leave (One m) bs s) (killed bs j) k
  -- both machines: what they put out has to be equal
  pub simple_both : (here : ℕ) (f : Function) → slice_get p.functions here ≡ Some f → (w : Simple) (seen : List ℕ)
      → simple_fits p here (result_type p.blocks f.result) w seen ≡ true → is_input w ≡ false
      → (l n m : ℕ) (s : S) (x y : State) → ConcretisesOneTyped p ConcretisesOne s x y
      → IfBothLeft (way_of w) (λ x' y'. x'.outputs ≡ y'.outputs →
      TransferIsExact (λ t. ConcretisesOne t x'.memory y'.memory)
      (o.simple Both f.result w s))
      (does (ord left) p uncounted f.result w l n x) (does (ord right) p uncounted f.result w l m y)
  pub test_both : (e : Expr) (seen : List ℕ) → is_tested p.types p.blocks seen e ≡ true
      → (t v : Bool) (s : S) (x y : State) → ConcretisesOneTyped p ConcretisesOne s x y →
      IsTruth p (ord left) e x.memory t
      → IsTruth p (ord right) e y.memory v
      → ((o.test Both e s).faults ≡ []) × Fits (o.test Both e s).verdict t v
  pub assume_both : (e : Expr) (seen : List ℕ) → is_tested p.types p.blocks seen e ≡ true
      → (t v : Bool) (s : S) (x y : State) → ConcretisesOneTyped p ConcretisesOne s x y →
      IsTruth p (ord left) e x.memory t
      → IsTruth p (ord right) e y.memory v → IsThere (λ r. ConcretisesOne r x.memory y.memory) (o.assume e t v s)
      × ((a b : Bool) → (a ≡ not t) ⊎ (b ≡ not v) → o.assume e a b s ≡ None)
  pub arguments_both : (k : ℕ) (f : Function) → slice_get p.functions k ≡ Some f → (es : List Expr) (seen : List ℕ)
      → arguments_fit p.types p.blocks seen f.params es ≡ true
      → (l n m : ℕ) (s : S) (x y : State) → ConcretisesOneTyped p ConcretisesOne s x y
      → IfBothLeft on (λ x' y'. x'.outputs ≡ y'.outputs → TransferIsExact (λ t. ConcretisesOne t x'.memory y'.memory)
      (o.arguments Both f es s))
      (passes (ord left) p f es l n x) (passes (ord right) p f es l m y)
  pub result_both : (k : ℕ) (f : Function) → slice_get p.functions k ≡ Some f → (d : Option Dest) (seen : List ℕ)
      → takes_result p.types p.blocks seen (result_type p.blocks f.result) d ≡ true
      → (l n m : ℕ) (s : S) (x y : State) → ConcretisesOneTyped p ConcretisesOne s x y
      → IfBothLeft on (λ x' y'. x'.outputs ≡ y'.outputs → TransferIsExact (λ t. ConcretisesOne t x'.memory y'.memory)
      (o.result Both f d s))
      (received (ord left) p f.result d l n x) (received (ord right) p f.result d l m y)
  pub enter_both : (bs : List ℕ) (s : S) (m k : Memory) → ConcretisesOne s m k
      → ConcretisesOne (o.enter Both bs s) (killed bs m) (killed bs k)
  pub leave_both : (bs : List ℕ) (s : S) (m k : Memory) → ConcretisesOne s m k
      → ConcretisesOne (o.leave Both bs s) (killed bs m) (killed bs k)
  pub reshared : (s : S) (m k : Memory) → ConcretisesOne s m k → ConcretisesOne (o.reshared s) m k
  pub ended : (f : Function) → slice_get p.functions p.main ≡ Some f → (s : S) (x y : State) →
      ConcretisesOneTyped p ConcretisesOne s x y
      → AreOverAlike (main_ends (ord left) p f.result f.line x) (main_ends (ord right) p f.result f.line y)
      → o.ended f s ≡ []
