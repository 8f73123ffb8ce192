-- What the operations on states keep, of memories and machines: the usual conditions of abstract interpretation (Cousot
-- and Cousot 1977). They speak of one operation each, and none of loops, ways out or lists of alarms.
use Rattle.std.specs.Prelude.{◌≡◌, ℕ, Bool, true, false, List, [], Option, Some, None, slice_get, option_to_list}
use Rattle.ep_int.specs.declared.types.Order.{Order}
use Rattle.ep_int.specs.Memory.{Memory, has, killed, Value}
use Rattle.ep_core.specs.Program.{Expr, Dest, Simple, Function, Program}
use Rattle.ep_core.specs.Exec.{State, Way, on, Outcome, leaves, no_input, Going, uncounted, is_true, is_order}
use Rattle.ep_core.specs.Exec.{given_all, first_of, frame_of, without, value, values, bound, does, received}
use Rattle.ep_core.specs.Runs.{Side, left, right, Run, IsDefined, initial, main_ends}
use Rattle.ep_core.specs.WellFormed.{result_type, is_tested, simple_fits, arguments_fit, takes_result}
use Rattle.ep_core.specs.Typed.{StateFits}
use Rattle.ep_pass.specs.States.{Both, One, Verdict, stuck, same, differs, StateOps}
use Rattle.ep_pass.specs.Pass.{way_of}

-- ---- what a kept state stands for

-- where `In s m k` says that a kept state stands for the memory m of the left machine and k of the right one
module _ (p : Program) {S : Type 0} (Concretises : S → Memory → Memory → Type 0) where
  -- two machines with such memories, the same inputs left and the same outputs
  pub record ConcretisesStates (s : S) (x y : State) : Type 0 where
    pub memories : Concretises s x.memory y.memory
    pub inputs : x.inputs ≡ y.inputs
    pub outputs : x.outputs ≡ y.outputs

  -- and whose memories are as the types of the program say
  pub record ConcretisesTyped (s : S) (x y : State) : Type 0 where
    pub stands : ConcretisesStates s x y
    pub left_fits : StateFits p x
    pub right_fits : StateFits p y

  -- a state is reached, and it stands for these
  abbrev pub Reaches : Option S → State → State → Type 0
  Reaches None x y = ⊥
  Reaches (Some s) x y = ConcretisesStates s x y

  -- the machine of this side, and then the other
  abbrev pub ConcretisesTypedBeside : Side → S → State → State → Type 0
  ConcretisesTypedBeside left s x y = ConcretisesTyped s x y
  ConcretisesTypedBeside right s x y = ConcretisesTyped s y x

  abbrev pub ReachesBeside : Side → Option S → State → State → Type 0
  ReachesBeside left u x y = Reaches u x y
  ReachesBeside right u x y = Reaches u y x

  -- The same for memories alone.
  abbrev pub ConcretisesBeside : Side → S → Memory → Memory → Type 0
  ConcretisesBeside left s m k = Concretises s m k
  ConcretisesBeside right s m k = Concretises s k m

  -- Both machines are left by this way, in states that a kept state stands for; or both want an input, with the same
  -- outputs.
  pub data Meets (k : Way) (u : Option S) (n m : ℕ) : Outcome → Outcome → Type 0 where
    meet : {x y : State} → Reaches u x y → Meets k u n m (leaves k n x) (leaves k m y)
    meet_starved : {x y : State} → x.outputs ≡ y.outputs → Meets k u n m (no_input x) (no_input y)

  -- one machine is left so, while the other stands still
  pub data MeetsAlone (m : Side) (k : Way) (u : Option S) (n : ℕ) (y : State) : Outcome → Type 0 where
    meet_alone : {x : State} → ReachesBeside m u x y → MeetsAlone m k u n y (leaves k n x)

-- ---- tests

-- what a verdict says of the truths of both sides
abbrev pub Fits : Verdict → Bool → Bool → Type 0
Fits stuck t u = ⊥
Fits same t u = t ≡ u
Fits differs t u = Unit {0}

abbrev pub GoesOn : Verdict → Type 0
GoesOn stuck = ⊥
GoesOn same = Unit {0}
GoesOn differs = Unit {0}

module _ (p : Program) where
  -- a test has a value on a machine, of this truth
  pub record IsTruth (o : Order) (e : Expr) (m : Memory) (t : Bool) : Type 0 where
    pub found : Value
    pub has : value o p e m ≡ has found
    pub is : is_true found ≡ t

  pub record Truths (ord : Side → Order) (e : Expr) (v : Verdict) (m k : Memory) : Type 0 where
    pub on_left : Bool
    pub on_right : Bool
    pub left_is : IsTruth (ord left) e m on_left
    pub right_is : IsTruth (ord right) e k on_right
    pub fits : Fits v on_left on_right

  pub record TruthAlone (o : Order) (e : Expr) (v : Verdict) (m : Memory) : Type 0 where
    pub truth : Bool
    pub is : IsTruth o e m truth
    pub goes_on : GoesOn v

-- ---- calls

module _ (o : Order) (p : Program) where
  -- A call up to its body: the result becomes undefined, the arguments are evaluated, and then the parameters and
  -- locals become undefined and the parameters get their values.
  abbrev pub passes : Function → List Expr → (line : ℕ) → Going
  passes f es l n s =
      given_all (values o p es (without (first_of (option_to_list f.result)) s).memory) l
      (without (first_of (option_to_list f.result)) s)
      (λ vs. bound o p f.params vs l (without (frame_of f) (without (first_of (option_to_list f.result)) s))
      (leaves on n))

-- ---- runs

-- both runs are over, or neither, with the same ending, which is defined, and the same outputs
pub record EndAlike (x y : Run) : Type 0 where
  pub defined : IsDefined x.ending
  pub ending : x.ending ≡ y.ending
  pub outputs : x.outputs ≡ y.outputs

-- ---- laws, on machines of these byte orders

-- the two sides have different ones
abbrev pub AreOther : (Side → Order) → Type 0
AreOther ord = is_order (ord left) (ord right) ≡ false

pub record Lawful (p : Program) (ord : Side → Order) {S : Type 0} (o : StateOps S)
    (Concretises : S → Memory → Memory → Type 0) :
    Type 0 where
  -- the machines begin main as the entry says
  pub entry_in : Concretises o.entry (initial (ord left) p) (initial (ord right) p)
  -- without a fault, both machines go on as a typed statement's state says
  pub simple_sound : (here : ℕ) (f : Function) → slice_get p.functions here ≡ Some f → (w : Simple) (seen : List ℕ)
      → simple_fits p here (result_type p.blocks f.result) w seen ≡ true
      → (l n m : ℕ) (s : S) (x y : State) → ConcretisesTyped p Concretises s x y → (o.simple Both f.result w s).faults
      ≡ []
      → Meets p Concretises (way_of w) (o.simple Both f.result w s).next n m
      (does (ord left) p uncounted f.result w l n x)
      (does (ord right) p uncounted f.result w l m y)
  -- without a fault, one machine does
  pub simple_alone : (m : Side) (here : ℕ) (f : Function) → slice_get p.functions here ≡ Some f
      → (w : Simple) (seen : List ℕ) → simple_fits p here (result_type p.blocks f.result) w seen ≡ true
      → (l n : ℕ) (s : S) (x y : State) → ConcretisesTypedBeside p Concretises m s x y →
      (o.simple (One m) f.result w s).faults ≡ []
      → MeetsAlone p Concretises m (way_of w) (o.simple (One m) f.result w s).next n y
      (does (ord m) p uncounted f.result w l n x)
  -- without a fault, a typed test has truths, and of them holds what was told
  pub test_sound : (e : Expr) (seen : List ℕ) → is_tested p.types p.blocks seen e ≡ true
      → (s : S) (x y : State) → ConcretisesTyped p Concretises s x y → (o.test Both e s).faults ≡ []
      → Truths p ord e (o.test Both e s).verdict x.memory y.memory
  pub test_alone : (m : Side) (e : Expr) (seen : List ℕ) → is_tested p.types p.blocks seen e ≡ true
      → (s : S) (x y : State) → ConcretisesTypedBeside p Concretises m s x y → (o.test (One m) e s).faults ≡ []
      → TruthAlone p (ord m) e (o.test (One m) e s).verdict x.memory
  -- where a test that lists no fault has these truths, they are assumed
  pub assume_in : (e : Expr) (seen : List ℕ) → is_tested p.types p.blocks seen e ≡ true
      → (t u : Bool) (s : S) (x y : State) → ConcretisesTyped p Concretises s x y → (o.test Both e s).faults ≡ []
      → IsTruth p (ord left) e x.memory t
      → IsTruth p (ord right) e y.memory u → Reaches p Concretises (o.assume e t u s) x y
  pub assume_alone : (m : Side) (e : Expr) (seen : List ℕ) → is_tested p.types p.blocks seen e ≡ true
      → (t : Bool) (s : S) (x y : State) → ConcretisesTypedBeside p Concretises m s x y → (o.test (One m) e s).faults
      ≡ []
      → IsTruth p (ord m) e x.memory t
      → ReachesBeside p Concretises m (o.assume_one m e t s) x y
  -- without a fault, the arguments of a typed call go to its parameters
  pub arguments_sound : (k : ℕ) (f : Function) → slice_get p.functions k ≡ Some f → (es : List Expr) (seen : List ℕ)
      → arguments_fit p.types p.blocks seen f.params es ≡ true
      → (l n m : ℕ) (s : S) (x y : State) → ConcretisesTyped p Concretises s x y → (o.arguments Both f es s).faults ≡ []
      → Meets p Concretises on (o.arguments Both f es s).next n m (passes (ord left) p f es l n x)
      (passes (ord right) p f es l m y)
  pub arguments_alone : (m : Side) (k : ℕ) (f : Function) → slice_get p.functions k ≡ Some f
      → (es : List Expr) (seen : List ℕ) → arguments_fit p.types p.blocks seen f.params es ≡ true
      → (l n : ℕ) (s : S) (x y : State) → ConcretisesTypedBeside p Concretises m s x y →
      (o.arguments (One m) f es s).faults ≡ []
      → MeetsAlone p Concretises m on (o.arguments (One m) f es s).next n y (passes (ord m) p f es l n x)
  -- without a fault, what a function gives goes to its place
  pub result_sound : (k : ℕ) (f : Function) → slice_get p.functions k ≡ Some f → (d : Option Dest) (seen : List ℕ)
      → takes_result p.types p.blocks seen (result_type p.blocks f.result) d ≡ true
      → (l n m : ℕ) (s : S) (x y : State) → ConcretisesTyped p Concretises s x y → (o.result Both f d s).faults ≡ []
      → Meets p Concretises on (o.result Both f d s).next n m (received (ord left) p f.result d l n x)
      (received (ord right) p f.result d l m y)
  pub result_alone : (m : Side) (k : ℕ) (f : Function) → slice_get p.functions k ≡ Some f
      → (d : Option Dest) (seen : List ℕ)
      → takes_result p.types p.blocks seen (result_type p.blocks f.result) d ≡ true
      → (l n : ℕ) (s : S) (x y : State) → ConcretisesTypedBeside p Concretises m s x y →
      (o.result (One m) f d s).faults ≡ []
      → MeetsAlone p Concretises m on (o.result (One m) f d s).next n y (received (ord m) p f.result d l n x)
  -- blocks that are entered or left become undefined, on the running sides
  pub enter_in : (bs : List ℕ) (s : S) (m k : Memory) → Concretises s m k →
      Concretises (o.enter Both bs s) (killed bs m) (killed bs k)
  pub leave_in : (bs : List ℕ) (s : S) (m k : Memory) → Concretises s m k →
      Concretises (o.leave Both bs s) (killed bs m) (killed bs k)
  pub enter_alone : (i : Side) (bs : List ℕ) (s : S) (m k : Memory) → ConcretisesBeside p Concretises i s m k
      → ConcretisesBeside p Concretises i (o.enter (One i) bs s) (killed bs m) k
  pub leave_alone : (i : Side) (bs : List ℕ) (s : S) (m k : Memory) → ConcretisesBeside p Concretises i s m k
      → ConcretisesBeside p Concretises i (o.leave (One i) bs s) (killed bs m) k
  -- nothing that a state stands for is lost
  pub unified_left : (s t : S) (m k : Memory) → Concretises s m k → Concretises (o.unified s t).0 m k
  pub unified_right : (s t : S) (m k : Memory) → Concretises t m k → Concretises (o.unified s t).1 m k
  pub joined_left : (s t : S) (m k : Memory) → Concretises s m k → Concretises (o.joined s t) m k
  pub joined_right : (s t : S) (m k : Memory) → Concretises t m k → Concretises (o.joined s t) m k
  pub widened_left : (s t : S) (m k : Memory) → Concretises s m k → Concretises (o.widened s t) m k
  pub leq_in : (s t : S) (m k : Memory) → o.leq s t ≡ true → Concretises s m k → Concretises t m k
  pub reshared_in : (s : S) (m k : Memory) → Concretises s m k → Concretises (o.reshared s) m k
  pub empty_in : (m k : Memory) → Concretises o.empty m k
  -- without a fault, both machines end main alike
  pub ended_sound : (f : Function) → slice_get p.functions p.main ≡ Some f → (s : S) (x y : State) →
      ConcretisesTyped p Concretises s x y
      → o.ended f s ≡ [] → EndAlike (main_ends (ord left) p f.result f.line x)
      (main_ends (ord right) p f.result f.line y)
