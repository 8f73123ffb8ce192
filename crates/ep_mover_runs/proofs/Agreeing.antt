-- Machines of a mover agree exactly where they put out the same symbols.
use Rattle.std.proofs.Common.{◌≡◌, ℕ, ◌≤◌, true, ◌&&◌, List, [], ◌∷◌, ◌++◌, length, take, slice_get, Option, Result}
use Rattle.std.proofs.Common.{Ok, Err, ⊎_elim, refl, sym, ◌∙◌, ap, subst, arith}
use Rattle.std.proofs.lemmas.Bool.{and_parts, cases_lt}
use Rattle.std.proofs.lemmas.List.{append_cancel_right}
use Rattle.ep_int.specs.declared.types.Order.{Order}
use Rattle.ep_core.specs.Program.{Stmts, Function, Program}
use Rattle.ep_core.specs.Exec.{uncounted}
use Rattle.ep_core.specs.Runs.{Ending, still_running, ended, wants_input, undefined_on, Run, run, run_by, IsDefined}
use Rattle.ep_core.specs.Runs.{IsOver, AreInputs, Agree}
use Rattle.ep_core.specs.WellFormed.{is_well_formed}
use Rattle.ep_core.proofs.Sorts.{never}
use Rattle.ep_core.proofs.Whole.{turns_go_on, steps_reach, SameRun, beginnings_agree}
use Rattle.ep_movers.specs.declared.Stop.{Stop}
use Rattle.ep_movers.specs.declared.Stop.TheVariants.{Foreign, Faulty}
use Rattle.ep_movers.specs.Symbols.{Symbol}
use Rattle.ep_movers.specs.Movers.{Machine, main_moves, outputs_of, is_moved, moves_on}
use Rattle.ep_movers.specs.Forms.{has_moving_form}
use Rattle.ep_mover_runs.specs.Following.{outputs_in, taken_by_all, put_out_with, body_of_main, zero_result, RunsSo}
use Rattle.ep_mover_runs.specs.Laws.{SameAgree, AgreeingAreSame}
use Rattle.ep_mover_runs.proofs.Numbers.{same_ok}
use Rattle.ep_mover_runs.proofs.Mains.{IsMover, is_mover}
use Rattle.ep_mover_runs.proofs.Ends.{run_follows, numbers_follow}
use Rattle.ep_mover_runs.proofs.Apart.{lone, lone_inputs, lone_long, same_outputs}

-- ---- the same symbols

ok_machine : (r : Result Machine Stop) (os : List (List Symbol)) → outputs_of r ≡ Ok os
    → (k : Machine) × (r ≡ Ok k) × (k.outputs ≡ os)
ok_machine (Ok k) os e = (k, refl, same_ok e)
ok_machine (Err s) os e = absurd cc

same_run : (inputs : List ℕ) (body : Stmts) (k m : Machine) (x y : Run) → k.outputs ≡ m.outputs
    → RunsSo inputs body (Ok k) x → RunsSo inputs body (Ok m) y → SameRun x y
same_run inputs body k m x y e f h =
    ⊎_elim
    (λ few.
    let a = f.few few in
    let b = h.few few in
    record {
      defined = subst IsDefined (sym a.0) tt;
      ending = a.0 ∙ sym b.0;
      outputs = a.1 ∙ ap (λ os. outputs_in inputs (take (put_out_with body (length inputs)) os)) e ∙ sym b.1;
    })
    (λ enough.
    let a = f.enough enough in
    let b = h.enough enough in
    record {
      defined = subst IsDefined (sym a.0) tt;
      ending = a.0 ∙ sym b.0;
      outputs = a.1 ∙ ap (λ os. outputs_in inputs os ++ zero_result ∷ []) e ∙ sym b.1;
    })
    (cases_lt (length inputs) (taken_by_all body))

module _ (p : Program) (formed : is_well_formed p ≡ true) (g : IsMover p) where
  abbrev main : Option Function
  main = slice_get p.functions p.main

  abbrev body : Stmts
  body = body_of_main main

  -- what a run of this machine does
  does_so : (o : Order) (r : Result Machine Stop) → main_moves o p main ≡ r → (inputs : List ℕ) (n : ℕ)
      → RunsSo inputs body r (run_by uncounted p o inputs n)
  does_so o r e inputs n =
      subst (λ (r : Result Machine Stop). RunsSo inputs body r (run_by uncounted p o inputs n)) e
      (run_follows p formed g o inputs n)

  -- ---- machines that agree

  undefined_over : (e : Ending) → (IsDefined e → ⊥) → IsOver e
  undefined_over still_running h = absurd (h tt)
  undefined_over ended h = tt
  undefined_over wants_input h = tt
  undefined_over (undefined_on l k) h = tt

  abbrev Defined : Order → Type 0
  Defined o = (inputs : List ℕ) → AreInputs inputs → (n : ℕ) → IsDefined (run p o inputs n).ending

  moved_ok : (o : Order) → Defined o → (r : Result Machine Stop) → main_moves o p main ≡ r → is_moved r ≡ true
      → (k : Machine) × (r ≡ Ok k)
  moved_ok o d (Ok k) e h = (k, refl)
  moved_ok o d (Err Foreign) e h = never h
  moved_ok o d (Err Faulty) e h =
      let n = taken_by_all body in
      let inputs = lone 0 0 n in
      let bad : IsDefined (run_by uncounted p o inputs 0).ending → ⊥
      = (does_so o (Err Faulty) e inputs 0).enough (lone_long 0 0 n) in
      let m = steps_reach p o inputs 0 (undefined_over (run_by uncounted p o inputs 0).ending bad) in
      absurd (bad (subst (λ (r : Run). IsDefined r.ending) m.1 (d inputs (lone_inputs 0 0 n (omega arith)) m.0)))

  end_of : (o : Order) (k : Machine) → main_moves o p main ≡ Ok k → (inputs : List ℕ) →
      taken_by_all body ≤ length inputs
      → (n : ℕ) × ((run p o inputs n).ending ≡ ended)
      × ((run p o inputs n).outputs ≡ outputs_in inputs k.outputs ++ zero_result ∷ [])
  end_of o k e inputs l =
      let ends = (does_so o (Ok k) e inputs 0).enough l in
      let m = steps_reach p o inputs 0 (subst IsOver (sym ends.0) tt) in
      (m.0, ap (λ (r : Run). r.ending) m.1 ∙ ends.0, ap (λ (r : Run). r.outputs) m.1 ∙ ends.1)

  put_same : (a b : Order) → Agree p a b → (k m : Machine) → main_moves a p main ≡ Ok k → main_moves b p main ≡ Ok m
      → k.outputs ≡ m.outputs
  put_same a b agree k m e f =
      let n = taken_by_all body in
      let inputs = lone 0 0 n in
      same_outputs n k.outputs m.outputs (numbers_follow p formed g a inputs k e (lone_long 0 0 n))
      (numbers_follow p formed g b inputs m f (lone_long 0 0 n))
      (λ inputs are l.
      let x = end_of a k e inputs l in
      let y = end_of b m f inputs l in
      let both = (agree inputs are x.0 y.0).over (subst IsOver (sym x.1) tt) (subst IsOver (sym y.1) tt) in
      append_cancel_right (outputs_in inputs k.outputs) (outputs_in inputs m.outputs) (zero_result ∷ [])
      (sym x.2 ∙ both.1 ∙ y.2))

-- ---- both ways

pub same_agree : SameAgree
same_agree p formed form a b os ha hb inputs are n m =
    let g = is_mover p formed form in
    let k = ok_machine (main_moves a p (slice_get p.functions p.main)) os ha in
    let l = ok_machine (main_moves b p (slice_get p.functions p.main)) os hb in
    beginnings_agree (run p a inputs n) (run p b inputs m) (run_by uncounted p a inputs n)
    (run_by uncounted p b inputs m)
    (same_run inputs (body_of_main (slice_get p.functions p.main)) k.0 l.0 (run_by uncounted p a inputs n)
    (run_by uncounted p b inputs m) (k.2 ∙ sym l.2) (does_so p formed g a (Ok k.0) k.1 inputs n)
    (does_so p formed g b (Ok l.0) l.1 inputs m))
    (turns_go_on p a inputs n n (omega arith)) (turns_go_on p b inputs m m (omega arith))

pub agreeing_are_same : AgreeingAreSame
agreeing_are_same p formed a b h agree =
    let s = and_parts (has_moving_form p) (moves_on a p && moves_on b p) h in
    let t = and_parts (moves_on a p) (moves_on b p) s.1 in
    let g = is_mover p formed s.0 in
    let k = moved_ok p formed g a (λ inputs are n. (agree inputs are n 0).left)
    (main_moves a p (slice_get p.functions p.main)) refl t.0 in
    let m = moved_ok p formed g b (λ inputs are n. (agree inputs are 0 n).right)
    (main_moves b p (slice_get p.functions p.main)) refl t.1 in
    let same : m.0.outputs ≡ k.0.outputs = sym (put_same p formed g a b agree k.0 m.0 k.1 m.1) in
    (k.0.outputs, ap outputs_of k.1, ap outputs_of m.1 ∙ ap (λ os. Ok os) same)
