-- Whole runs.
use Rattle.std.proofs.Common.{◌≡◌, ℕ, ◌+◌, ◌-◌, ◌≤◌, List, refl, sym, ap, ◌∙◌, subst, Option, Some, None, arith}
use Rattle.ep_int.specs.declared.types.Order.{Order}
use Rattle.ep_int.specs.declared.types.Scalar.{Scalar}
use Rattle.ep_int.specs.Memory.{int, null, pointer, Found, has, faults, loaded}
use Rattle.ep_core.specs.Program.{Program}
use Rattle.ep_core.specs.Exec.{State, Outcome, leaves, running, no_input, undefined_at, Counting, counted, uncounted}
use Rattle.ep_core.specs.Exec.{model, size_at, result_in, body_of, bodies}
use Rattle.ep_core.specs.Runs.{Ending, still_running, ended, wants_input, undefined_on, Run, run_of, result_out}
use Rattle.ep_core.specs.Runs.{main_function, main_ends, line_of, finished, start, main_from, run_by, run, IsDefined}
use Rattle.ep_core.specs.Runs.{IsOver, Begins, Agrees}
use Rattle.ep_core.specs.Laws.{Continues, StepsGoOn, TurnsGoOn, TurnsGoFurther, StepsReach, AgreesAlong}
use Rattle.ep_core.proofs.Prefixes.{begins_refl, begins_trans, begins_more, begins_either}
use Rattle.ep_core.proofs.Grows.{state_in, Later, later_refl}
use Rattle.ep_core.proofs.Shifts.{Shifts, more_steps, to_turns, more_turns, Starts, Pair, body_pair, bodies_pair}
use Rattle.ep_core.proofs.Reached.{Enough, Reached, body_reaching, bodies_reaching}

pub continues_refl : (x : Run) → Continues x x
continues_refl x = record {
  outputs = begins_refl x.outputs;
  tests = begins_refl x.tests;
  joint_tests = begins_refl x.joint_tests;
  used = omega arith;
  over = λ o. refl;
}

-- a run has what a state before it had
abbrev Has : State → Run → Type 0
Has s x = Begins s.outputs x.outputs × Begins s.tests x.tests × Begins s.joint_tests x.joint_tests × (s.used ≤ x.used)

has_more : (s r : State) (x : Run) → Later s r → Has r x → Has s x
has_more s r x p h =
    (begins_trans _ _ _ p.0 h.0, begins_trans _ _ _ p.1 h.1, begins_trans _ _ _ p.2 h.2, omega (arith, p.3, h.3))

result_has : (v : Found) (l : ℕ) (s : State) → Has s (result_out v l s)
result_has (has (int v)) l s = (begins_more _ _, begins_refl _, begins_refl _, omega arith)
result_has (has null) l s = later_refl s
result_has (has (pointer b q)) l s = later_refl s
result_has (faults k) l s = later_refl s

module _ (o : Order) (p : Program) where
  main_has : (r : Option (ℕ × Scalar)) (l : ℕ) (s : State) → Has s (main_ends o p r l s)
  main_has None l s = later_refl s
  main_has (Some r) l s = result_has (loaded o (model o p) (size_at o p r.0) s.memory r.1 r.0 0) l s

  finished_has : (x : Outcome) → Has (state_in x) (finished o p x)
  finished_has (leaves w left s) = main_has (result_in (main_function o p)) (line_of o p (main_function o p)) s
  finished_has (running s) = later_refl s
  finished_has (no_input s) = later_refl s
  finished_has (undefined_at l k s) = later_refl s

  goes_on : (s : State) (x : Run) → Has s x → Continues (run_of still_running s) x
  goes_on s x h = record { outputs = h.0; tests = h.1; joint_tests = h.2; used = h.3; over = λ o. absurd o }

  finished_continues : (shift : ℕ → ℕ) (x y : Outcome) → Starts shift x y → Continues (finished o p x) (finished o p y)
  finished_continues shift (leaves w left s) y e =
      subst (λ z. Continues (finished o p (leaves w left s)) (finished o p z)) (sym e) (continues_refl _)
  finished_continues shift (running s) y e =
      goes_on s (finished o p y) (has_more s (state_in y) (finished o p y) e (finished_has y))
  finished_continues shift (no_input s) y e =
      subst (λ z. Continues (run_of wants_input s) (finished o p z)) (sym e) (continues_refl _)
  finished_continues shift (undefined_at l k s) y e =
      subst (λ z. Continues (run_of (undefined_on l k) s) (finished o p z)) (sym e) (continues_refl _)

  run_starts : (inputs : List ℕ) (n k : ℕ) (c c' : Counting) (shift : ℕ → ℕ) → Shifts n c c' shift → k ≤ n
      → Continues (run_by c p o inputs k) (run_by c' p o inputs (shift k))
  run_starts inputs n k c c' shift law le =
      let pair : Pair n c c' shift law (body_of o p c (main_function o p) p.main (bodies o p c p.main))
      (body_of o p c' (main_function o p) p.main (bodies o p c' p.main))
      =
      body_pair n c c' shift law o p (main_function o p) p.main (bodies o p c p.main) (bodies o p c' p.main)
      (bodies_pair n c c' shift law o p p.main) in
      finished_continues shift (main_from o p c inputs k) (main_from o p c' inputs (shift k))
      (pair.follows k (start o p inputs) le)

pub steps_go_on : StepsGoOn
steps_go_on p o inputs n m le =
    let e : (m - n) + n ≡ m = omega arith in
    subst (λ k. Continues (run p o inputs n) (run p o inputs k)) e
    (run_starts o p inputs n n counted counted (λ j. (m - n) + j) (more_steps n (m - n)) (omega arith))

pub turns_go_on : TurnsGoOn
turns_go_on p o inputs n m le = run_starts o p inputs m n counted uncounted (λ j. m) (to_turns m) le

pub turns_go_further : TurnsGoFurther
turns_go_further p o inputs n m le =
    run_starts o p inputs n n uncounted uncounted (λ j. m) (more_turns n m le) (omega arith)

-- ---- enough steps

enough_run : (f o : ℕ → Outcome) (e : Enough f o) → f e.cost ≡ o 0
enough_run f o e = e.reaches e.cost 0 (omega arith)

over_reached : (o : Order) (p : Program) (f : ℕ → Outcome) (y : Outcome) → Reached f y → IsOver (finished o p y).ending
    → (m : ℕ) × (finished o p (f m) ≡ finished o p y)
over_reached o p f (leaves w k s) e over = (e.cost, ap (finished o p) (enough_run f _ e))
over_reached o p f (running s) e over = absurd over
over_reached o p f (no_input s) e over = (e.cost, ap (finished o p) (enough_run f _ e))
over_reached o p f (undefined_at l k s) e over = (e.cost, ap (finished o p) (enough_run f _ e))

pub steps_reach : StepsReach
steps_reach p o inputs n over =
    over_reached o p (λ m. main_from o p counted inputs m) (main_from o p uncounted inputs n)
    ((body_reaching o p (main_function o p) p.main (bodies o p counted p.main) (bodies o p uncounted p.main)
    (bodies_reaching o p p.main)).reaches n (start o p inputs)) over

-- ---- agreement

-- the same ending and outputs on both machines, and nothing undefined
pub record SameRun (x y : Run) : Type 0 where
  pub defined : IsDefined x.ending
  pub ending : x.ending ≡ y.ending
  pub outputs : x.outputs ≡ y.outputs

-- a run that is not over is not undefined
pub defined_if : (e : Ending) → (IsOver e → IsDefined e) → IsDefined e
defined_if still_running h = tt
defined_if ended h = tt
defined_if wants_input h = tt
defined_if (undefined_on l k) h = h tt

defined_before : (x y : Run) → Continues x y → IsDefined y.ending → IsDefined x.ending
defined_before x y c d = defined_if x.ending (λ o. subst (λ (r : Run). IsDefined r.ending) (sym (c.over o)) d)

-- beginnings of such runs agree
pub beginnings_agree : (x y x' y' : Run) → SameRun x' y' → Continues x x' → Continues y y' → Agrees x y
beginnings_agree x y x' y' s c e = record {
  left = defined_before x x' c s.defined;
  right = defined_before y y' e (subst IsDefined s.ending s.defined);
  outputs = begins_either x.outputs y.outputs y'.outputs (subst (Begins x.outputs) s.outputs c.outputs) e.outputs;
  over = λ o p. (
    ap (λ (r : Run). r.ending) (c.over o) ∙ s.ending ∙ sym (ap (λ (r : Run). r.ending) (e.over p)),
    ap (λ (r : Run). r.outputs) (c.over o) ∙ s.outputs ∙ sym (ap (λ (r : Run). r.outputs) (e.over p)),
  );
}

pub agrees_along : AgreesAlong
agrees_along p a b h inputs are schedule = h inputs are _ _
