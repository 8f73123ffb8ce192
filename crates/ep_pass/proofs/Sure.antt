-- The laws of operations, told of whole machines.
use Rattle.std.proofs.Common.{◌≡◌, ℕ, Bool, true, List, [], Option, Some, None, slice_get}
use Rattle.ep_int.specs.declared.types.Order.{Order}
use Rattle.ep_core.specs.Program.{Expr, Dest, Simple, Function, Program}
use Rattle.ep_core.specs.Exec.{State, Way, on, Outcome, leaves, no_input, uncounted, without, does, received}
use Rattle.ep_core.specs.Runs.{Side, left, right}
use Rattle.ep_core.specs.WellFormed.{result_type, is_tested, simple_fits, arguments_fit, takes_result}
use Rattle.ep_pass.specs.States.{Both, One, StateOps}
use Rattle.ep_pass.specs.Pass.{way_of}
use Rattle.ep_pass.specs.Laws.{passes, Truths, TruthAlone, IsTruth}

-- a test that is typed, where some blocks can be named
pub record IsTest (p : Program) (e : Expr) : Type 0 where
  pub seen : List ℕ
  pub fits : is_tested p.types p.blocks seen e ≡ true

-- the same machine with other tests listed
abbrev pub told : (tests joint_tests : List ℕ) → State → State
told t j x = record x { tests = t; joint_tests = j }

-- where `In s x y` says that a kept state stands for the states x of the left machine and y of the right one
module _ {S : Type 0} (In : S → State → State → Type 0) where
  abbrev pub Reaches : Option S → State → State → Type 0
  Reaches None x y = ⊥
  Reaches (Some s) x y = In s x y

  -- this side's state, and that of the other
  abbrev pub Seen : Side → S → State → State → Type 0
  Seen left s x y = In s x y
  Seen right s x y = In s y x

  abbrev pub Beside : Side → Option S → State → State → Type 0
  Beside left u x y = Reaches u x y
  Beside right u x y = Reaches u y x

  pub data Meets (k : Way) (u : Option S) (n m : ℕ) : Outcome → Outcome → Type 0 where
    meet_on : {x y : State} → Reaches u x y → Meets k u n m (leaves k n x) (leaves k m y)
    meet_none : {x y : State} → x.outputs ≡ y.outputs → Meets k u n m (no_input x) (no_input y)

  pub data MeetsAlone (m : Side) (k : Way) (u : Option S) (n : ℕ) (y : State) : Outcome → Type 0 where
    meet_one : {x : State} → Beside m u x y → MeetsAlone m k u n y (leaves k n x)

pub record Sure (p : Program) (ord : Side → Order) {S : Type 0} (o : StateOps S) (In : S → State → State → Type 0)
    : Type 0 where
  pub same_outputs : (s : S) (x y : State) → In s x y → x.outputs ≡ y.outputs
  pub retold : (s : S) (x y : State) → In s x y → (t j t' j' : List ℕ) → In s (told t j x) (told t' j' y)
  pub simple_sound : (here : ℕ) (f : Function) → slice_get p.functions here ≡ Some f → (w : Simple) (seen : List ℕ)
      → simple_fits p here (result_type p.blocks f.result) w seen ≡ true
      → (l n m : ℕ) (s : S) (x y : State) → In s x y → (o.simple Both f.result w s).faults ≡ []
      → Meets In (way_of w) (o.simple Both f.result w s).next n m (does (ord left) p uncounted f.result w l n x)
      (does (ord right) p uncounted f.result w l m y)
  pub simple_alone : (m : Side) (here : ℕ) (f : Function) → slice_get p.functions here ≡ Some f
      → (w : Simple) (seen : List ℕ) → simple_fits p here (result_type p.blocks f.result) w seen ≡ true
      → (l n : ℕ) (s : S) (x y : State) → Seen In m s x y → (o.simple (One m) f.result w s).faults ≡ []
      → MeetsAlone In m (way_of w) (o.simple (One m) f.result w s).next n y (does (ord m) p uncounted f.result w l n x)
  pub test_sound : (e : Expr) → IsTest p e → (s : S) (x y : State) → In s x y → (o.test Both e s).faults ≡ []
      → Truths p ord e (o.test Both e s).verdict x.memory y.memory
  pub test_alone : (m : Side) (e : Expr) → IsTest p e → (s : S) (x y : State) → Seen In m s x y
      → (o.test (One m) e s).faults ≡ [] → TruthAlone p (ord m) e (o.test (One m) e s).verdict x.memory
  pub assume_in : (e : Expr) → IsTest p e → (t u : Bool) (s : S) (x y : State) → In s x y
      → (o.test Both e s).faults ≡ [] → IsTruth p (ord left) e x.memory t → IsTruth p (ord right) e y.memory u
      → Reaches In (o.assume e t u s) x y
  pub assume_alone : (m : Side) (e : Expr) → IsTest p e → (t : Bool) (s : S) (x y : State) → Seen In m s x y
      → (o.test (One m) e s).faults ≡ [] → IsTruth p (ord m) e x.memory t
      → Beside In m (o.assume_one m e t s) x y
  pub arguments_sound : (k : ℕ) (f : Function) → slice_get p.functions k ≡ Some f → (es : List Expr) (seen : List ℕ)
      → arguments_fit p.types p.blocks seen f.params es ≡ true
      → (l n m : ℕ) (s : S) (x y : State) → In s x y → (o.arguments Both f es s).faults ≡ []
      → Meets In on (o.arguments Both f es s).next n m (passes (ord left) p f es l n x)
      (passes (ord right) p f es l m y)
  pub arguments_alone : (m : Side) (k : ℕ) (f : Function) → slice_get p.functions k ≡ Some f
      → (es : List Expr) (seen : List ℕ) → arguments_fit p.types p.blocks seen f.params es ≡ true
      → (l n : ℕ) (s : S) (x y : State) → Seen In m s x y → (o.arguments (One m) f es s).faults ≡ []
      → MeetsAlone In m on (o.arguments (One m) f es s).next n y (passes (ord m) p f es l n x)
  pub result_sound : (k : ℕ) (f : Function) → slice_get p.functions k ≡ Some f → (d : Option Dest) (seen : List ℕ)
      → takes_result p.types p.blocks seen (result_type p.blocks f.result) d ≡ true
      → (l n m : ℕ) (s : S) (x y : State) → In s x y → (o.result Both f d s).faults ≡ []
      → Meets In on (o.result Both f d s).next n m (received (ord left) p f.result d l n x)
      (received (ord right) p f.result d l m y)
  pub result_alone : (m : Side) (k : ℕ) (f : Function) → slice_get p.functions k ≡ Some f
      → (d : Option Dest) (seen : List ℕ) → takes_result p.types p.blocks seen (result_type p.blocks f.result) d ≡ true
      → (l n : ℕ) (s : S) (x y : State) → Seen In m s x y → (o.result (One m) f d s).faults ≡ []
      → MeetsAlone In m on (o.result (One m) f d s).next n y (received (ord m) p f.result d l n x)
  pub enter_in : (bs : List ℕ) (s : S) (x y : State) → In s x y → In (o.enter Both bs s) (without bs x) (without bs y)
  pub leave_in : (bs : List ℕ) (s : S) (x y : State) → In s x y → In (o.leave Both bs s) (without bs x) (without bs y)
  pub enter_alone : (m : Side) (bs : List ℕ) (s : S) (x y : State) → Seen In m s x y
      → Seen In m (o.enter (One m) bs s) (without bs x) y
  pub leave_alone : (m : Side) (bs : List ℕ) (s : S) (x y : State) → Seen In m s x y
      → Seen In m (o.leave (One m) bs s) (without bs x) y
  pub unified_left : (s t : S) (x y : State) → In s x y → In (o.unified s t).0 x y
  pub unified_right : (s t : S) (x y : State) → In t x y → In (o.unified s t).1 x y
  pub joined_left : (s t : S) (x y : State) → In s x y → In (o.joined s t) x y
  pub joined_right : (s t : S) (x y : State) → In t x y → In (o.joined s t) x y
  pub widened_left : (s t : S) (x y : State) → In s x y → In (o.widened s t) x y
  pub leq_in : (s t : S) (x y : State) → o.leq s t ≡ true → In s x y → In t x y
  pub reshared_in : (s : S) (x y : State) → In s x y → In (o.reshared s) x y
  pub empty_in : (s : S) (x y : State) → In s x y → In o.empty x y
