-- Statements one after another: with enough inputs and with too few.
use Rattle.std.proofs.Common.{◌≡◌, ℕ, ◌+◌, ◌-◌, ◌<◌, ◌≤◌, true, false, nat_le}
use Rattle.std.proofs.Common.{List, length, take, Option, Result, Ok, Err, ⊎_elim, refl, sym, ◌∙◌, ap, subst, arith}
use Rattle.std.proofs.lemmas.Bool.{and_parts, cases_lt, le-leb, false_from_ne_true, leb-true, cond-true, cond-false}
use Rattle.std.proofs.Math.Seq.{take-append_seam}
use Rattle.ep_int.specs.declared.types.Order.{Order}
use Rattle.ep_core.specs.Program.{What, Stmts, stop, more, Program}
use Rattle.ep_core.specs.Exec.{State, Outcome, leaves, running, no_input, undefined_at, uncounted, Going, and_then}
use Rattle.ep_core.specs.Exec.{frame_of, exec, exec_all}
use Rattle.ep_core.specs.Runs.{Begins}
use Rattle.ep_core.specs.WellFormed.{is_named, what_fits, stmts_fit, is_well_formed}
use Rattle.ep_movers.specs.declared.Stop.{Stop}
use Rattle.ep_movers.specs.declared.Stop.TheVariants.{Foreign, Faulty}
use Rattle.ep_movers.specs.Symbols.{goes_on}
use Rattle.ep_movers.specs.Movers.{Machine, moves_what, moves}
use Rattle.ep_movers.specs.Forms.{is_moving_what, are_moving}
use Rattle.ep_mover_runs.specs.Following.{outputs_in, Follows, taken_by, put_out_by, taken_by_all, put_out_with}
use Rattle.ep_mover_runs.specs.Following.{IsUndefined, IsStopped, Comes, Wants, WantsAfter, AllMoveSo}
use Rattle.ep_mover_runs.proofs.Mains.{IsMover, has_result, result_unnamed}
use Rattle.ep_mover_runs.proofs.Kept.{kept_on, what_kept, all_kept}
use Rattle.ep_mover_runs.proofs.Steps.{what_does, all_come}

-- ---- how many numbers are put out

none_put : (l : ℕ) (w : What) (rest : Stmts) (i : ℕ) → i < taken_by w → put_out_with (more l w rest) i ≡ 0
none_put l w rest i h =
    cond-false (nat_le (taken_by w) i) (put_out_by w + put_out_with rest (i - taken_by w)) 0
    (false_from_ne_true (nat_le (taken_by w) i) (λ e. let k = leb-true (taken_by w) i e in omega (arith, h, k)))

some_put : (l : ℕ) (w : What) (rest : Stmts) (i : ℕ) → taken_by w ≤ i
    → put_out_with (more l w rest) i ≡ put_out_by w + put_out_with rest (i - taken_by w)
some_put l w rest i h =
    cond-true (nat_le (taken_by w) i) (put_out_by w + put_out_with rest (i - taken_by w)) 0 (le-leb (taken_by w) i h)

take_begun : {A : Type 0} (xs ys : List A) → Begins xs ys → take (length xs) ys ≡ xs
take_begun xs ys h = subst (λ zs. take (length xs) zs ≡ xs) h.is (take-append_seam xs h.rest)

-- ---- what stops

stopped_then : (x : Outcome) (go : Going) → IsStopped x → IsStopped (and_then x go)
stopped_then (leaves w left s) go h = absurd h
stopped_then (running s) go h = absurd h
stopped_then (no_input s) go h = tt
stopped_then (undefined_at l k s) go h = tt

undefined_stops : (x : Outcome) → IsUndefined x → IsStopped x
undefined_stops (leaves w left s) h = absurd h
undefined_stops (running s) h = absurd h
undefined_stops (no_input s) h = absurd h
undefined_stops (undefined_at l k s) h = tt

module _ (o : Order) (p : Program) (inputs : List ℕ) where
  -- the first of them wants more
  wants_then : (s : State) (m : Machine) → Follows o p inputs s m → (r : Result Machine Stop) (x : Outcome)
      (go : Machine → Result Machine Stop) (later : Going) → Wants s.outputs r x
      → ((k e : Machine) → r ≡ Ok k → go k ≡ Ok e → Begins m.outputs e.outputs)
      → WantsAfter inputs (length m.outputs) (goes_on r go) (and_then x later)
  wants_then s m f (Ok k) x go later h begins =
      subst (λ x. WantsAfter inputs (length m.outputs) (go k) (and_then x later)) (sym h.is) (after (go k) refl)
    where
      after : (r : Result Machine Stop) → go k ≡ r → WantsAfter inputs (length m.outputs) r (no_input h.state)
      after (Ok e) q = record {
        state = h.state;
        is = refl;
        outputs = h.outputs ∙ f.outputs
            ∙ ap (outputs_in inputs) (sym (take_begun m.outputs e.outputs (begins k e refl q)));
      }
      after (Err Foreign) q = tt
      after (Err Faulty) q = tt
  wants_then s m f (Err Foreign) x go later h begins = tt
  wants_then s m f (Err Faulty) x go later h begins = stopped_then x later h

  -- one of the others does
  wants_later : (n i j c : ℕ) (m : Machine) (r : Result Machine Stop) (x : Outcome) (go : Machine → Result Machine Stop)
      (later : Going) → Comes o p inputs n i j m r x
      → ((s : State) (k : Machine) → Follows o p inputs s k → k.inputs ≡ m.inputs + i
      → length k.outputs ≡ length m.outputs + j → WantsAfter inputs c (go k) (later n s))
      → WantsAfter inputs c (goes_on r go) (and_then x later)
  wants_later n i j c m (Ok k) x go later h next =
      subst (λ x. WantsAfter inputs c (go k) (and_then x later)) (sym h.is) (next h.state k h.follows h.taken h.put)
  wants_later n i j c m (Err Foreign) x go later h next = tt
  wants_later n i j c m (Err Faulty) x go later h next = stopped_then x later (undefined_stops x h)

module _ (p : Program) (formed : is_well_formed p ≡ true) (g : IsMover p) (o : Order) (inputs : List ℕ) (here : ℕ)
    (result : Option ℕ) (bodies : ℕ → Going) (n : ℕ)
  where
    abbrev seen : List ℕ
    seen = frame_of g.main

    abbrev fewer : Stmts → Machine → ℕ
    fewer ss m = length m.outputs + put_out_with ss (length inputs - m.inputs)

    all_want : (ss : Stmts) → are_moving p ss ≡ true → stmts_fit p here result ss seen false ≡ true
        → (s : State) (m : Machine) → Follows o p inputs s m → length inputs < m.inputs + taken_by_all ss
        → WantsAfter inputs (fewer ss m) (moves o ss m) (exec_all o p uncounted here bodies ss n s)
    all_want stop h i s m f few = absurd (omega (arith, few, f.enough))
    all_want (more l w rest) h i s m f few =
        let forms = and_parts (is_moving_what p w) (are_moving p rest) h in
        let fits = and_parts (what_fits p here result w seen false) (stmts_fit p here result rest seen false) i in
        let first = what_does p formed g o inputs here result bodies n w l forms.0 fits.0 s m f in
        let r = has_result p formed g in
        let b = r.block in
        let out : (c : ℕ) → is_named p.types p.blocks seen c ≡ true → b ≡ c → ⊥ =
        λ c h q. result_unnamed p formed g r c h q in
        let there = length inputs - m.inputs in
        ⊎_elim
        (λ short.
        let none = none_put l w rest there (omega (arith, short, f.enough)) in
        let same : length m.outputs ≡ length m.outputs + put_out_with (more l w rest) there = omega (arith, none) in
        subst (λ c. WantsAfter inputs c (goes_on (moves_what o w m) (moves o rest))
        (and_then (exec o p uncounted here bodies w l n s) (exec_all o p uncounted here bodies rest))) same
        (wants_then o p inputs s m f (moves_what o w m) (exec o p uncounted here bodies w l n s) (moves o rest)
        (exec_all o p uncounted here bodies rest) (first.few short)
        (λ k e q r.
        (kept_on b m k e (what_kept p seen o b out here result w m k forms.0 fits.0 q)
        (all_kept p seen o b out here result rest k e forms.1 fits.1 r)).outputs)))
        (λ enough.
        let some = some_put l w rest there (omega (arith, enough)) in
        wants_later o p inputs n (taken_by w) (put_out_by w) (fewer (more l w rest) m) m (moves_what o w m)
        (exec o p uncounted here bodies w l n s) (moves o rest) (exec_all o p uncounted here bodies rest)
        (first.enough enough)
        (λ t k e q r.
        let left : there - taken_by w ≡ length inputs - k.inputs = omega (arith, q) in
        let same : fewer rest k ≡ fewer (more l w rest) m
        = omega (arith, r, some, ap (put_out_with rest) left) in
        subst (λ c. WantsAfter inputs c (moves o rest k) (exec_all o p uncounted here bodies rest n t)) same
        (all_want rest forms.1 fits.1 t k e (omega (arith, few, q)))))
        (cases_lt (length inputs) (m.inputs + taken_by w))

    pub all_move : (ss : Stmts) → are_moving p ss ≡ true → stmts_fit p here result ss seen false ≡ true
        → (s : State) (m : Machine) → Follows o p inputs s m
        → AllMoveSo o p inputs n ss m (moves o ss m) (exec_all o p uncounted here bodies ss n s)
    all_move ss h i s m f = record {
      enough = λ e. all_come p formed g o inputs here result bodies n ss h i s m f e;
      few = λ l. all_want ss h i s m f l;
    }
