-- What holds of all runs.
use Rattle.std.specs.Prelude.{◌≡◌, ℕ, ◌<◌, ◌≤◌, slice_get, Bool, List, Option, IsTrue}
use Rattle.ep_int.specs.declared.types.Order.{Order}
use Rattle.ep_core.specs.Program.{Stmts, Program}
use Rattle.ep_core.specs.Exec.{State, Way, Outcome, leaves, running, no_input, undefined_at, Going, Counting, uncounted}
use Rattle.ep_core.specs.Exec.{exec_all, body_of, bodies}
use Rattle.ep_core.specs.Ways.{Ways, has_way, ways_of_all}
use Rattle.ep_core.specs.WellFormed.{stmts_fit}
use Rattle.ep_core.specs.Runs.{Run, run, run_by, IsOver, Begins, Agree, AgreeAlong}

-- a run, and one that goes on where it stopped: nothing that was put out, tested or taken is lost
pub record Continues (x y : Run) : Type 0 where
  pub outputs : Begins x.outputs y.outputs
  pub tests : Begins x.tests y.tests
  pub joint_tests : Begins x.joint_tests y.joint_tests
  pub used : x.used ≤ y.used
  pub over : IsOver x.ending → x ≡ y

-- More steps go on where fewer stop.
abbrev pub StepsGoOn : Type 0
StepsGoOn =
    (p : Program) (o : Order) (inputs : List ℕ) (n m : ℕ) → n ≤ m → Continues (run p o inputs n) (run p o inputs m)

-- A run by turns, in which each loop makes at most so many, goes on where as many steps stop, or fewer.
abbrev pub TurnsGoOn : Type 0
TurnsGoOn =
    (p : Program) (o : Order) (inputs : List ℕ) (n m : ℕ) → n ≤ m
    → Continues (run p o inputs n) (run_by uncounted p o inputs m)

-- More turns go on where fewer stop.
abbrev pub TurnsGoFurther : Type 0
TurnsGoFurther =
    (p : Program) (o : Order) (inputs : List ℕ) (n m : ℕ) → n ≤ m
    → Continues (run_by uncounted p o inputs n) (run_by uncounted p o inputs m)

-- A run by turns that is over is made by enough steps too.
abbrev pub StepsReach : Type 0
StepsReach =
    (p : Program) (o : Order) (inputs : List ℕ) (n : ℕ) → IsOver (run_by uncounted p o inputs n).ending
    → (m : ℕ) × (run p o inputs m ≡ run_by uncounted p o inputs n)

-- In a run by turns the bound stays the same to the end.
abbrev pub TurnsStay : Type 0
TurnsStay =
    (p : Program) (o : Order) (here m : ℕ) (ss : Stmts) (n : ℕ) (s : State) (w : Way) (left : ℕ) (r : State)
    → exec_all o p uncounted here (bodies o p uncounted m) ss n s ≡ leaves w left r → left ≡ n

-- The body of a function is the same in the table of any later one.
abbrev pub BodiesStand : Type 0
BodiesStand =
    (p : Program) (o : Order) (c : Counting) (n k : ℕ) → k < n
    → bodies o p c n k ≡ body_of o p c (slice_get p.functions k) k (bodies o p c k)

-- Agreement at all numbers of steps is agreement at every moment of every interleaving.
abbrev pub AgreesAlong : Type 0
AgreesAlong = (p : Program) (a b : Order) → Agree p a b → AgreeAlong p a b

-- ---- ways out

abbrev pub IsAmong : Ways → Outcome → Type 0
IsAmong ws (leaves w left s) = IsTrue (has_way ws w)
IsAmong ws (running s) = Unit {0}
IsAmong ws (no_input s) = Unit {0}
IsAmong ws (undefined_at l k s) = Unit {0}

-- Well-formed statements are left by no other way than their text has.
abbrev pub LeavesByItsWays : Type 0
LeavesByItsWays =
    (p : Program) (o : Order) (c : Counting) (here : ℕ) (bodies : ℕ → Going) (result : Option ℕ)
    (ss : Stmts) (seen : List ℕ) (in_loop : Bool) → IsTrue (stmts_fit p here result ss seen in_loop)
    → (n : ℕ) (s : State) → IsAmong (ways_of_all ss) (exec_all o p c here bodies ss n s)
