-- Runs of a program, and what it means that two machines agree on it.
use Rattle.std.specs.Prelude.{◌≡◌, ℕ, ◌^◌, ◌<◌, ◌⊎◌, Bool, true, false, ◌||◌, if◌then◌else◌, nat_eq, List, [], ◌++◌}
use Rattle.std.specs.Prelude.{fold, count_by, slice_get, Option, Some, None}
use Rattle.std.specs.List.{AllByRecursion}
use Rattle.ep_int.specs.declared.types.IntType.TheVariants.{I32}
use Rattle.ep_int.specs.declared.types.Order.{Order}
use Rattle.ep_int.specs.declared.types.Scalar.{Scalar}
use Rattle.ep_int.specs.declared.types.Scalar.TheVariants.{Int}
use Rattle.ep_int.specs.Memory.{undefined, number, Memory, int, null, pointer, Kind, Found, has, faults, loaded, stored}
use Rattle.ep_core.specs.Program.{Block, Init, Function, Program}
use Rattle.ep_core.specs.Exec.{Output, State, Outcome, leaves, running, no_input, undefined_at, untyped, Counting}
use Rattle.ep_core.specs.Exec.{counted, model, size_at, result_in, body_of, bodies, put_out}

-- ---- the memory at the start

abbrev pub is_global : Option Block → Bool
is_global None = false
is_global (Some b) = b.global

abbrev pub is_result : Option (ℕ × Scalar) → ℕ → Bool
is_result None b = false
is_result (Some r) b = nat_eq r.0 b

-- global blocks and the result of main are zero bytes; all else is undefined
abbrev pub blank : List Block → (result : Option (ℕ × Scalar)) → Memory
blank bs r b q = if is_global (slice_get bs b) || is_result r b then number 0 else undefined

module _ (o : Order) (p : Program) where
  abbrev pub main_function : Option Function
  main_function = slice_get p.functions p.main

  -- the first values of globals, in their places
  abbrev pub initial : Memory
  initial =
      fold (λ (m : Memory) (i : Init). stored o (model o p) m (Int i.t) i.block i.offset (int i.value))
      (blank p.blocks (result_in main_function)) p.init

  abbrev pub start : (inputs : List ℕ) → State
  start inputs = record {
    memory = initial;
    inputs = inputs;
    used = 0;
    outputs = [];
    tests = [];
    joint_tests = [];
  }

-- ---- runs

-- how a run is found after its steps
pub data Ending : Type 0 where
  still_running : Ending
  ended : Ending
  wants_input : Ending
  undefined_on : (line : ℕ) → Kind → Ending

-- how many inputs were taken, and what was put out and tested
pub record Run : Type 0 where
  pub ending : Ending
  pub outputs : List Output
  pub tests : List ℕ
  pub joint_tests : List ℕ
  pub used : ℕ

abbrev pub run_of : Ending → State → Run
run_of e s = record { ending = e; outputs = s.outputs; tests = s.tests; joint_tests = s.joint_tests; used = s.used }

-- at its end main's result is put out as an int; no typed program has an address there
abbrev pub result_out : Found → (line : ℕ) → State → Run
result_out (has (int v)) l s = run_of ended (put_out I32 v s)
result_out (has null) l s = run_of (undefined_on l untyped) s
result_out (has (pointer b q)) l s = run_of (undefined_on l untyped) s
result_out (faults k) l s = run_of (undefined_on l k) s

module _ (o : Order) (p : Program) where
  abbrev pub main_ends : (result : Option (ℕ × Scalar)) → (line : ℕ) → State → Run
  main_ends None l s = run_of ended s
  main_ends (Some r) l s = result_out (loaded o (model o p) (size_at o p r.0) s.memory r.1 r.0 0) l s

  abbrev pub line_of : Option Function → ℕ
  line_of None = 0
  line_of (Some f) = f.line

  abbrev pub finished : Outcome → Run
  finished (leaves w left s) = main_ends (result_in (main_function o p)) (line_of (main_function o p)) s
  finished (running s) = run_of still_running s
  finished (no_input s) = run_of wants_input s
  finished (undefined_at l k s) = run_of (undefined_on l k) s

  -- what the body of main comes to
  abbrev pub main_from : Counting → (inputs : List ℕ) → ℕ → Outcome
  main_from c inputs n = body_of o p c (main_function o p) p.main (bodies o p c p.main) n (start o p inputs)

abbrev pub run_by : Counting → Program → Order → (inputs : List ℕ) → ℕ → Run
run_by c p o inputs n = finished o p (main_from o p c inputs n)

-- so many steps of main on a machine of this byte order, with these inputs
abbrev pub run : Program → Order → (inputs : List ℕ) → (steps : ℕ) → Run
run p o inputs n = run_by counted p o inputs n

-- ---- agreement

abbrev pub IsDefined : Ending → Type 0
IsDefined still_running = Unit {0}
IsDefined ended = Unit {0}
IsDefined wants_input = Unit {0}
IsDefined (undefined_on l k) = ⊥

abbrev pub IsOver : Ending → Type 0
IsOver still_running = ⊥
IsOver ended = Unit {0}
IsOver wants_input = Unit {0}
IsOver (undefined_on l k) = Unit {0}

-- the first list begins the second
pub record Begins {A : Type 0} (a b : List A) : Type 0 where
  pub rest : List A
  pub is : a ++ rest ≡ b

-- Two runs agree so far: neither is undefined, one's outputs begin the other's, and where both are over, their endings
-- and outputs are equal.
pub record Agrees (x y : Run) : Type 0 where
  pub left : IsDefined x.ending
  pub right : IsDefined y.ending
  pub outputs : Begins x.outputs y.outputs ⊎ Begins y.outputs x.outputs
  pub over : IsOver x.ending → IsOver y.ending → (x.ending ≡ y.ending) × (x.outputs ≡ y.outputs)

-- inputs are numbers below 2 to the 64
abbrev pub AreInputs : List ℕ → Type 0
AreInputs vs = AllByRecursion (λ v. v < 2 ^ 64) vs

-- The machines of these byte orders agree on the program: for all inputs, however many steps each has made.
abbrev pub Agree : Program → (a b : Order) → Type 0
Agree p a b = (inputs : List ℕ) → AreInputs inputs → (n m : ℕ) → Agrees (run p a inputs n) (run p b inputs m)

-- ---- schedules

-- the machine that makes the next step
pub data Side : Type 0 where
  left : Side
  right : Side

abbrev pub is_left : Side → Bool
is_left left = true
is_left right = false

abbrev pub is_right : Side → Bool
is_right left = false
is_right right = true

-- the two machines agree at every moment of every interleaving of their steps
abbrev pub AgreeAlong : Program → (a b : Order) → Type 0
AgreeAlong p a b =
    (inputs : List ℕ) → AreInputs inputs → (schedule : List Side)
    → Agrees (run p a inputs (count_by is_left schedule)) (run p b inputs (count_by is_right schedule))
