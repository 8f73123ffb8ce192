-- The laws of statements, of calls, of blocks and of pairs of states, as the record of laws of an analysis asks them of
-- what is known of the cells of two memories.
use Rattle.std.specs.Prelude.{◌≡◌, ℕ, Bool, true, List, [], Option, Some, slice_get}
use Rattle.ep_int.specs.declared.types.IntType.{IntType}
use Rattle.ep_int.specs.declared.types.Order.{Order}
use Rattle.ep_int.specs.declared.types.Scalar.{Scalar}
use Rattle.ep_int.specs.Memory.{Memory, killed}
use Rattle.ep_domain.specs.Domain.{Ops}
use Rattle.ep_cells.specs.States.{Known}
use Rattle.ep_core.specs.Program.{Expr, Place, Dest, Simple, nothing, eval, assign, input, output, returns, Function}
use Rattle.ep_core.specs.Program.{Program}
use Rattle.ep_core.specs.Exec.{State, on, uncounted, does, received}
use Rattle.ep_core.specs.Runs.{Side, left, right, main_ends}
use Rattle.ep_core.specs.WellFormed.{result_type, is_tested, simple_fits, takes_result, is_well_formed}
use Rattle.ep_pass.specs.States.{Both, One}
use Rattle.ep_pass.specs.Pass.{way_of}
use Rattle.ep_pass.specs.Laws.{ConcretisesTyped, ConcretisesTypedBeside, Reaches, ReachesBeside, ConcretisesBeside}
use Rattle.ep_pass.specs.Laws.{Meets, MeetsAlone, IsTruth, Truths}
use Rattle.ep_pass.specs.Laws.{TruthAlone, EndAlike}
use Rattle.ep_transfers.specs.Cells.{cell_ops}
use Rattle.ep_transfers.specs.Laws.{StandsFor}

module _ {N : Type 0} (D : Ops N) (p : Program) (ord : Side → Order) where
  abbrev pub In : Known N → Memory → Memory → Type 0
  In = StandsFor D p ord

  -- ---- statements without statements in them: without a fault, both machines go on as a typed one's state says, or
  -- one

  pub record SimpleHolds (w : Simple) : Type 0 where
    pub sound : (here : ℕ) (f : Function) → slice_get p.functions here ≡ Some f → (seen : List ℕ)
        → simple_fits p here (result_type p.blocks f.result) w seen ≡ true → (l n m : ℕ) (s : Known N) (x y : State)
        → ConcretisesTyped p In s x y → ((cell_ops D p ord).simple Both f.result w s).faults ≡ []
        → Meets p In (way_of w) ((cell_ops D p ord).simple Both f.result w s).next n m
        (does (ord left) p uncounted f.result w l n x) (does (ord right) p uncounted f.result w l m y)
    pub alone : (i : Side) (here : ℕ) (f : Function) → slice_get p.functions here ≡ Some f → (seen : List ℕ)
        → simple_fits p here (result_type p.blocks f.result) w seen ≡ true → (l n : ℕ) (s : Known N) (x y : State)
        → ConcretisesTypedBeside p In i s x y → ((cell_ops D p ord).simple (One i) f.result w s).faults ≡ []
        → MeetsAlone p In i (way_of w) ((cell_ops D p ord).simple (One i) f.result w s).next n y
        (does (ord i) p uncounted f.result w l n x)

  -- those that store one value, put one out, or only evaluate
  pub record StatementsHold : Type 0 where
    pub nothing_holds : SimpleHolds nothing
    pub eval_holds : (e : Expr) → SimpleHolds (eval e)
    pub assign_holds : (w : Scalar) (a : Place) (e : Expr) → SimpleHolds (assign w a e)
    pub input_holds : (t : IntType) (d : Option Dest) → SimpleHolds (input t d)
    pub output_holds : (t : IntType) (e : Expr) → SimpleHolds (output t e)
    pub return_holds : (e : Option Expr) → SimpleHolds (returns e)

  -- ---- results

  pub record ResultsHold : Type 0 where
    pub sound : (k : ℕ) (f : Function) → slice_get p.functions k ≡ Some f → (d : Option Dest) (seen : List ℕ)
        → takes_result p.types p.blocks seen (result_type p.blocks f.result) d ≡ true → (l n m : ℕ) (s : Known N)
        (x y : State) → ConcretisesTyped p In s x y → ((cell_ops D p ord).result Both f d s).faults ≡ []
        → Meets p In on ((cell_ops D p ord).result Both f d s).next n m (received (ord left) p f.result d l n x)
        (received (ord right) p f.result d l m y)
    pub alone : (i : Side) (k : ℕ) (f : Function) → slice_get p.functions k ≡ Some f → (d : Option Dest)
        (seen : List ℕ) → takes_result p.types p.blocks seen (result_type p.blocks f.result) d ≡ true → (l n : ℕ)
        (s : Known N) (x y : State) → ConcretisesTypedBeside p In i s x y →
        ((cell_ops D p ord).result (One i) f d s).faults ≡ []
        → MeetsAlone p In i on ((cell_ops D p ord).result (One i) f d s).next n y (received (ord i) p f.result d l n x)
    pub ended : (f : Function) → slice_get p.functions p.main ≡ Some f → (s : Known N) (x y : State) →
        ConcretisesTyped p In s x y
        → (cell_ops D p ord).ended f s ≡ []
        → EndAlike (main_ends (ord left) p f.result f.line x) (main_ends (ord right) p f.result f.line y)

  -- ---- tests

  pub record TestsHold : Type 0 where
    pub sound : (e : Expr) (seen : List ℕ) → is_tested p.types p.blocks seen e ≡ true → (s : Known N) (x y : State)
        → ConcretisesTyped p In s x y → ((cell_ops D p ord).test Both e s).faults ≡ []
        → Truths p ord e ((cell_ops D p ord).test Both e s).verdict x.memory y.memory
    pub alone : (i : Side) (e : Expr) (seen : List ℕ) → is_tested p.types p.blocks seen e ≡ true → (s : Known N)
        (x y : State) → ConcretisesTypedBeside p In i s x y → ((cell_ops D p ord).test (One i) e s).faults ≡ []
        → TruthAlone p (ord i) e ((cell_ops D p ord).test (One i) e s).verdict x.memory
    pub assume_in : (e : Expr) (seen : List ℕ) → is_tested p.types p.blocks seen e ≡ true → (t u : Bool) (s : Known N)
        (x y : State) → ConcretisesTyped p In s x y → ((cell_ops D p ord).test Both e s).faults ≡ []
        → IsTruth p (ord left) e x.memory t → IsTruth p (ord right) e y.memory u
        → Reaches p In ((cell_ops D p ord).assume e t u s) x y
    pub assume_alone : (i : Side) (e : Expr) (seen : List ℕ) → is_tested p.types p.blocks seen e ≡ true → (t : Bool)
        (s : Known N) (x y : State) → ConcretisesTypedBeside p In i s x y →
        ((cell_ops D p ord).test (One i) e s).faults ≡ []
        → IsTruth p (ord i) e x.memory t → ReachesBeside p In i ((cell_ops D p ord).assume_one i e t s) x y

  -- ---- blocks that come and go

  pub record BlocksHold : Type 0 where
    pub enter_in : (bs : List ℕ) (s : Known N) (m k : Memory) → In s m k
        → In ((cell_ops D p ord).enter Both bs s) (killed bs m) (killed bs k)
    pub leave_in : (bs : List ℕ) (s : Known N) (m k : Memory) → In s m k
        → In ((cell_ops D p ord).leave Both bs s) (killed bs m) (killed bs k)
    pub enter_alone : (i : Side) (bs : List ℕ) (s : Known N) (m k : Memory) → ConcretisesBeside p In i s m k
        → ConcretisesBeside p In i ((cell_ops D p ord).enter (One i) bs s) (killed bs m) k
    pub leave_alone : (i : Side) (bs : List ℕ) (s : Known N) (m k : Memory) → ConcretisesBeside p In i s m k
        → ConcretisesBeside p In i ((cell_ops D p ord).leave (One i) bs s) (killed bs m) k

  -- ---- pairs of states

  pub record PairsHold : Type 0 where
    pub unified_left : (s t : Known N) (m k : Memory) → In s m k → In ((cell_ops D p ord).unified s t).0 m k
    pub unified_right : (s t : Known N) (m k : Memory) → In t m k → In ((cell_ops D p ord).unified s t).1 m k
    pub joined_left : (s t : Known N) (m k : Memory) → In s m k → In ((cell_ops D p ord).joined s t) m k
    pub joined_right : (s t : Known N) (m k : Memory) → In t m k → In ((cell_ops D p ord).joined s t) m k
    pub widened_left : (s t : Known N) (m k : Memory) → In s m k → In ((cell_ops D p ord).widened s t) m k
    pub leq_in : (s t : Known N) (m k : Memory) → (cell_ops D p ord).leq s t ≡ true → In s m k → In t m k
    pub reshared_in : (s : Known N) (m k : Memory) → In s m k → In ((cell_ops D p ord).reshared s) m k
    pub empty_in : (m k : Memory) → In (cell_ops D p ord).empty m k

-- ---- of each well-formed program, for machines of any two byte orders

abbrev pub Each : (Program → (Side → Order) → Type 0) → Type 0
Each P = (p : Program) (ord : Side → Order) → is_well_formed p ≡ true → P p ord
