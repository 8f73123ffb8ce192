-- Whole runs: from runs by turns to agreement by steps, along each interleaving, and in the end.
use Rattle.std.proofs.Common.{ℕ, suc, ◌+◌, ◌≤◌, ◌<◌, List, refl, sym, ap, ◌∙◌, subst, arith}
use Rattle.ep_core.proofs.Whole.{defined_if}
use Rattle.ep_int.specs.declared.types.Order.{Order}
use Rattle.ep_int.specs.declared.types.Scalar.{Scalar}
use Rattle.ep_int.specs.Memory.{int, null, pointer, Found, has, faults, loaded}
use Rattle.std.proofs.Common.{Option, Some, None}
use Rattle.ep_core.specs.Program.{Program}
use Rattle.ep_core.specs.Exec.{State, Outcome, leaves, running, no_input, undefined_at, uncounted, counted, model}
use Rattle.ep_core.specs.Exec.{size_at, result_in, bodies}
use Rattle.ep_core.specs.Runs.{Run, result_out}
use Rattle.ep_core.specs.Runs.{main_function, main_ends, line_of, finished, start, main_from, run_by, run, IsDefined}
use Rattle.ep_core.specs.Runs.{IsOver, Begins, Agree}
use Rattle.ep_core.specs.Laws.{Continues}
use Rattle.ep_core.proofs.Prefixes.{begins_refl, begins_trans, begins_more, begins_either}
use Rattle.ep_core.proofs.Grows.{state_in}
use Rattle.ep_core.proofs.Whole.{turns_go_on, steps_reach, agrees_along}
use Rattle.ep_pass.specs.Agreement.{ComesAsFar, Follows, AgreeInTheEnd}
use Rattle.ep_pass.proofs.Passing.{Passed, body_passing, bodies_passing}

-- ---- outputs of a whole run

result_begins : (v : Found) (l : ℕ) (s : State) → Begins s.outputs (result_out v l s).outputs
result_begins (has (int v)) l s = begins_more _ _
result_begins (has null) l s = begins_refl _
result_begins (has (pointer b q)) l s = begins_refl _
result_begins (faults k) l s = begins_refl _

module _ (o : Order) (p : Program) where
  main_begins : (r : Option (ℕ × Scalar)) (l : ℕ) (s : State) → Begins s.outputs (main_ends o p r l s).outputs
  main_begins None l s = begins_refl _
  main_begins (Some r) l s = result_begins (loaded o (model o p) (size_at o p r.0) s.memory r.1 r.0 0) l s

  pub finished_begins : (x : Outcome) → Begins (state_in x).outputs (finished o p x).outputs
  finished_begins (leaves w n s) =
      main_begins (result_in (main_function o p)) (line_of o p (main_function o p)) s
  finished_begins (running s) = begins_refl _
  finished_begins (no_input s) = begins_refl _
  finished_begins (undefined_at l k s) = begins_refl _

-- ---- coming as far

pub far_refl : (x : Run) → ComesAsFar x x
far_refl x = record { outputs = begins_refl x.outputs; over = λ o. (refl, refl) }

pub far_trans : (x y z : Run) → ComesAsFar x y → ComesAsFar y z → ComesAsFar x z
far_trans x y z c d = record {
  outputs = begins_trans _ _ _ c.outputs d.outputs;
  over = λ o. (let e = c.over o in
      let f = d.over (subst IsOver e.0 o) in
      (e.0 ∙ f.0, e.1 ∙ f.1));
}

far_of : (x y : Run) → Continues x y → ComesAsFar x y
far_of x y c = record {
  outputs = c.outputs;
  over = λ o. (let e = c.over o in
      (ap (λ (r : Run). r.ending) e, ap (λ (r : Run). r.outputs) e));
}

defined_before : (x y : Run) → ComesAsFar x y → IsDefined y.ending → IsDefined x.ending
defined_before x y c d = defined_if x.ending (λ o. subst IsDefined (sym (c.over o).0) d)

-- a run that is defined, and one that comes as far
pub record Covered (x y : Run) : Type 0 where
  pub defined : IsDefined x.ending
  pub far : ComesAsFar x y

module _ (p : Program) where
  -- By turns: with more than u of them the first machine's run is defined, and the second's comes as far, with more
  -- than u turns beyond these.
  abbrev pub IsCovered : (u : ℕ) → (a b : Order) → Type 0
  IsCovered u a b =
      (inputs : List ℕ) (n m : ℕ) → u < n → n + u < m
      → Covered (run_by uncounted p a inputs n) (run_by uncounted p b inputs m)

  by_turns : (o : Order) (inputs : List ℕ) (n m : ℕ) → n ≤ m
      → ComesAsFar (run p o inputs n) (run_by uncounted p o inputs m)
  by_turns o inputs n m le = far_of _ _ (turns_go_on p o inputs n m le)

  -- what so many turns come to, some number of steps comes to
  over_by_steps : (o : Order) (inputs : List ℕ) (n : ℕ) → IsOver (run_by uncounted p o inputs n).ending
      → (m : ℕ) × ComesAsFar (run_by uncounted p o inputs n) (run p o inputs m)
  over_by_steps o inputs n over =
      let r = steps_reach p o inputs n over in
      (r.0, subst (ComesAsFar (run_by uncounted p o inputs n)) (sym r.1) (far_refl _))

  result_over : (v : Found) (l : ℕ) (s : State) → IsOver (result_out v l s).ending
  result_over (has (int v)) l s = tt
  result_over (has null) l s = tt
  result_over (has (pointer b q)) l s = tt
  result_over (faults k) l s = tt

  left_over : (o : Order) (r : Option (ℕ × Scalar)) (l : ℕ) (s : State) → IsOver (main_ends o p r l s).ending
  left_over o None l s = tt
  left_over o (Some r) l s = result_over (loaded o (model o p) (size_at o p r.0) s.memory r.1 r.0 0) l s

  stopped_by_steps : (o : Order) (inputs : List ℕ) (y : Outcome)
      → Passed (λ left. main_from o p counted inputs left) y
      → (IsOver (finished o p y).ending → (m : ℕ) × ComesAsFar (finished o p y) (run p o inputs m))
      → (m : ℕ) × ComesAsFar (finished o p y) (run p o inputs m)
  stopped_by_steps o inputs (leaves w n s) d h =
      h (left_over o (result_in (main_function o p)) (line_of o p (main_function o p)) s)
  stopped_by_steps o inputs (running s) d h = (
    d.from,
    record {
      outputs = begins_trans _ _ _ (d.puts d.from (omega arith))
          (finished_begins o p (main_from o p counted inputs d.from));
      over = λ o. absurd o;
    },
  )
  stopped_by_steps o inputs (no_input s) d h = h tt
  stopped_by_steps o inputs (undefined_at l k s) d h = h tt

  by_steps : (o : Order) (inputs : List ℕ) (n : ℕ)
      → (m : ℕ) × ComesAsFar (run_by uncounted p o inputs n) (run p o inputs m)
  by_steps o inputs n =
      stopped_by_steps o inputs (main_from o p uncounted inputs n)
      ((body_passing o p (main_function o p) p.main (bodies o p counted p.main) (bodies o p uncounted p.main)
      (bodies_passing o p p.main)).passing n (start o p inputs)) (over_by_steps o inputs n)

  defined_in_steps : (u : ℕ) (a b : Order) → IsCovered u a b → (inputs : List ℕ) (n : ℕ)
      → IsDefined (run p a inputs n).ending
  defined_in_steps u a b c inputs n =
      let t = suc (n + u) in
      defined_before (run p a inputs n) (run_by uncounted p a inputs t) (by_turns a inputs n t (omega arith))
      (c inputs t (suc (t + u)) (omega arith) (omega arith)).defined

  agree : (u : ℕ) (a b : Order) → IsCovered u a b → IsCovered u b a → Agree p a b
  agree u a b c d inputs are n m =
      let t = suc (n + (m + u)) in
      let z = suc (t + u) in
      let x = run p a inputs n in
      let y = run p b inputs m in
      let r = run_by uncounted p b inputs z in
      let xs : ComesAsFar x r
      = far_trans x (run_by uncounted p a inputs t) r (by_turns a inputs n t (omega arith))
      (c inputs t z (omega arith) (omega arith)).far in
      let ys : ComesAsFar y r = by_turns b inputs m z (omega arith) in
      record {
        left = defined_in_steps u a b c inputs n;
        right = defined_in_steps u b a d inputs m;
        outputs = begins_either x.outputs y.outputs r.outputs xs.outputs ys.outputs;
        over = λ e f. ((xs.over e).0 ∙ sym (ys.over f).0, (xs.over e).1 ∙ sym (ys.over f).1);
      }

  follows : (u : ℕ) (a b : Order) → IsCovered u a b → Follows p a b
  follows u a b c inputs are n =
      let t = suc (n + u) in
      let z = suc (t + u) in
      let r = run_by uncounted p b inputs z in
      let k = by_steps b inputs z in (
        k.0,
        far_trans (run p a inputs n) r (run p b inputs k.0)
            (far_trans (run p a inputs n) (run_by uncounted p a inputs t) r (by_turns a inputs n t (omega arith))
            (c inputs t z (omega arith) (omega arith)).far) k.1,
      )

  pub agree_in_the_end : (u : ℕ) (a b : Order) → IsCovered u a b → IsCovered u b a → AgreeInTheEnd p a b
  agree_in_the_end u a b c d = record {
    so_far = agree u a b c d;
    along = agrees_along p a b (agree u a b c d);
    left_first = follows u a b c;
    right_first = follows u b a d;
  }
