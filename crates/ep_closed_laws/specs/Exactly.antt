-- What the operations on states keep where each state stands for one pair of machines.
use Rattle.std.specs.Prelude.{◌≡◌, ◌⊎◌, ℕ, Bool, true, false, not, List, [], Option, Some, None, slice_get}
use Rattle.ep_int.specs.declared.types.Order.{Order}
use Rattle.ep_core.specs.Program.{Expr, Dest, Simple, Function, Program}
use Rattle.ep_core.specs.Exec.{State, Way, on, Outcome, leaves, running, no_input, undefined_at, uncounted, without}
use Rattle.ep_core.specs.Exec.{does, received}
use Rattle.ep_core.specs.Runs.{Side, left, right, start, Run, ended as over, main_ends}
use Rattle.ep_core.specs.WellFormed.{result_type, is_tested, simple_fits, arguments_fit, takes_result}
use Rattle.ep_pass.specs.States.{Both, One, Transfer, StateOps}
use Rattle.ep_pass.specs.Laws.{passes, IsTruth, Fits, GoesOn}
use Rattle.ep_pass.specs.Pass.{way_of}
use Rattle.ep_kinds.specs.InOut.{is_input, is_talk}

-- a state is reached, and this holds of it
abbrev pub IsThere : {S : Type 0} → (S → Type 0) → Option S → Type 0
IsThere P None = ⊥
IsThere P (Some s) = P s

-- where a statement is left, it is by this way, and this holds of the machine after it
abbrev pub IfLeft : Way → (State → Type 0) → Outcome → Type 0
IfLeft k Q (leaves w n x) = (w ≡ k) × Q x
IfLeft k Q (running x) = Unit {0}
IfLeft k Q (no_input x) = Unit {0}
IfLeft k Q (undefined_at l j x) = Unit {0}

-- where both are
abbrev pub IfBothLeft : Way → (State → State → Type 0) → Outcome → Outcome → Type 0
IfBothLeft k Q c d = IfLeft k (λ x. IfLeft k (λ y. Q x y) d) c

-- no fault, and a state after it
pub record TransferIsExact {S : Type 0} (P : S → Type 0) (g : Transfer S) : Type 0 where
  pub faults : g.faults ≡ []
  pub next : IsThere P g.next

-- the state of this side's machine, and then the other's
abbrev pub SeenFrom : {S : Type 0} → (S → State → State → Type 0) → Side → S → State → State → Type 0
SeenFrom K left s x y = K s x y
SeenFrom K right s x y = K s y x

-- the same machine with other tests listed
abbrev pub retold : (tests joint_tests : List ℕ) → State → State
retold t j x = record x { tests = t; joint_tests = j }

-- two runs that are over, with equal outputs
pub record AreOverAlike (a b : Run) : Type 0 where
  pub left_over : a.ending ≡ over
  pub right_over : b.ending ≡ over
  pub outputs : a.outputs ≡ b.outputs

-- where `K s x y` says that a state stands for these two machines alone
pub record Exactly (p : Program) (ord : Side → Order) {S : Type 0} (o : StateOps S) (K : S → State → State → Type 0)
    : Type 0 where
  pub entry : (inputs : List ℕ) → K o.entry (start (ord left) p inputs) (start (ord right) p inputs)
  pub same_outputs : (s : S) (x y : State) → K s x y → x.outputs ≡ y.outputs
  pub tests_free : (s : S) (x y : State) → K s x y → (t j t' j' : List ℕ) → K s (retold t j x) (retold t' j' y)
  -- one machine alone
  pub simple_alone : (m : Side) (here : ℕ) (f : Function) → slice_get p.functions here ≡ Some f
      → (w : Simple) (seen : List ℕ) → simple_fits p here (result_type p.blocks f.result) w seen ≡ true
      → is_talk w ≡ false → (l n : ℕ) (s : S) (x y : State) → SeenFrom K m s x y
      → IfLeft (way_of w) (λ x'. TransferIsExact (λ t. SeenFrom K m t x' y) (o.simple (One m) f.result w s))
      (does (ord m) p uncounted f.result w l n x)
  pub test_alone : (m : Side) (e : Expr) (seen : List ℕ) → is_tested p.types p.blocks seen e ≡ true
      → (t : Bool) (s : S) (x y : State) → SeenFrom K m s x y → IsTruth p (ord m) e x.memory t
      → ((o.test (One m) e s).faults ≡ []) × GoesOn (o.test (One m) e s).verdict
  pub assume_alone : (m : Side) (e : Expr) (seen : List ℕ) → is_tested p.types p.blocks seen e ≡ true
      → (t : Bool) (s : S) (x y : State) → SeenFrom K m s x y → IsTruth p (ord m) e x.memory t
      → IsThere (λ r. SeenFrom K m r x y) (o.assume_one m e t s) × (o.assume_one m e (not t) s ≡ None)
  pub arguments_alone : (m : Side) (k : ℕ) (f : Function) → slice_get p.functions k ≡ Some f
      → (es : List Expr) (seen : List ℕ) → arguments_fit p.types p.blocks seen f.params es ≡ true
      → (l n : ℕ) (s : S) (x y : State) → SeenFrom K m s x y
      → IfLeft on (λ x'. TransferIsExact (λ t. SeenFrom K m t x' y) (o.arguments (One m) f es s))
      (passes (ord m) p f es l n x)
  pub result_alone : (m : Side) (k : ℕ) (f : Function) → slice_get p.functions k ≡ Some f
      → (d : Option Dest) (seen : List ℕ)
      → takes_result p.types p.blocks seen (result_type p.blocks f.result) d ≡ true
      → (l n : ℕ) (s : S) (x y : State) → SeenFrom K m s x y
      → IfLeft on (λ x'. TransferIsExact (λ t. SeenFrom K m t x' y) (o.result (One m) f d s))
      (received (ord m) p f.result d l n x)
  pub enter_alone : (m : Side) (bs : List ℕ) (s : S) (x y : State) → SeenFrom K m s x y
      → SeenFrom K m (o.enter (One m) bs s) (without bs x) y
  pub leave_alone : (m : Side) (bs : List ℕ) (s : S) (x y : State) → SeenFrom K m s x y
      → SeenFrom K m (o.leave (One m) bs s) (without bs x) y
  -- both machines: what they put out has to be equal
  pub simple_both : (here : ℕ) (f : Function) → slice_get p.functions here ≡ Some f → (w : Simple) (seen : List ℕ)
      → simple_fits p here (result_type p.blocks f.result) w seen ≡ true → is_input w ≡ false
      → (l n m : ℕ) (s : S) (x y : State) → K s x y
      → IfBothLeft (way_of w) (λ x' y'. x'.outputs ≡ y'.outputs → TransferIsExact (λ t. K t x' y')
      (o.simple Both f.result w s))
      (does (ord left) p uncounted f.result w l n x) (does (ord right) p uncounted f.result w l m y)
  pub test_both : (e : Expr) (seen : List ℕ) → is_tested p.types p.blocks seen e ≡ true
      → (t v : Bool) (s : S) (x y : State) → K s x y → IsTruth p (ord left) e x.memory t
      → IsTruth p (ord right) e y.memory v
      → ((o.test Both e s).faults ≡ []) × Fits (o.test Both e s).verdict t v
  pub assume_both : (e : Expr) (seen : List ℕ) → is_tested p.types p.blocks seen e ≡ true
      → (t v : Bool) (s : S) (x y : State) → K s x y → IsTruth p (ord left) e x.memory t
      → IsTruth p (ord right) e y.memory v → IsThere (λ r. K r x y) (o.assume e t v s)
      × ((a b : Bool) → (a ≡ not t) ⊎ (b ≡ not v) → o.assume e a b s ≡ None)
  pub arguments_both : (k : ℕ) (f : Function) → slice_get p.functions k ≡ Some f → (es : List Expr) (seen : List ℕ)
      → arguments_fit p.types p.blocks seen f.params es ≡ true
      → (l n m : ℕ) (s : S) (x y : State) → K s x y
      → IfBothLeft on (λ x' y'. x'.outputs ≡ y'.outputs → TransferIsExact (λ t. K t x' y') (o.arguments Both f es s))
      (passes (ord left) p f es l n x) (passes (ord right) p f es l m y)
  pub result_both : (k : ℕ) (f : Function) → slice_get p.functions k ≡ Some f → (d : Option Dest) (seen : List ℕ)
      → takes_result p.types p.blocks seen (result_type p.blocks f.result) d ≡ true
      → (l n m : ℕ) (s : S) (x y : State) → K s x y
      → IfBothLeft on (λ x' y'. x'.outputs ≡ y'.outputs → TransferIsExact (λ t. K t x' y') (o.result Both f d s))
      (received (ord left) p f.result d l n x) (received (ord right) p f.result d l m y)
  pub enter_both : (bs : List ℕ) (s : S) (x y : State) → K s x y → K (o.enter Both bs s) (without bs x) (without bs y)
  pub leave_both : (bs : List ℕ) (s : S) (x y : State) → K s x y → K (o.leave Both bs s) (without bs x) (without bs y)
  pub reshared : (s : S) (x y : State) → K s x y → K (o.reshared s) x y
  pub ended : (f : Function) → slice_get p.functions p.main ≡ Some f → (s : S) (x y : State) → K s x y
      → AreOverAlike (main_ends (ord left) p f.result f.line x) (main_ends (ord right) p f.result f.line y)
      → o.ended f s ≡ []
