-- A report that is empty means that the machines agree.
use Rattle.std.proofs.Common.{◌≡◌, ℕ, suc, ◌≤◌, ◌<◌, List, [], ◌∷◌, refl, sym, subst, Option, Some, None}
use Rattle.ep_alarms.proofs.Gathered.{no_faults}
use Rattle.std.proofs.Common.{true, slice_get, map, arith}
use Rattle.ep_int.specs.declared.types.Order.{Order}
use Rattle.ep_int.specs.Memory.{Memory}
use Rattle.ep_core.specs.Program.{Function, Program}
use Rattle.ep_core.specs.Exec.{State, on, broken, continued, returned, Outcome, uncounted, result_in, frame_of}
use Rattle.ep_core.specs.Exec.{body_of, bodies}
use Rattle.ep_core.specs.Runs.{Side, left, right, still_running, wants_input, Run, run_of, main_function, main_ends}
use Rattle.ep_core.specs.Runs.{line_of, finished, start, main_from, IsDefined, Begins}
use Rattle.ep_core.specs.WellFormed.{is_well_formed, result_type}
use Rattle.ep_core.proofs.Prefixes.{begins_refl, begins_trans}
use Rattle.ep_core.proofs.Grows.{state_in}
use Rattle.ep_core.proofs.Operands.{fits_at}
use Rattle.ep_pass.specs.States.{StateOps}
use Rattle.ep_pass.specs.Pass.{Event, alarm_of, Pass, Heads, join_on, tried, main_pass, faults_at_end}
use Rattle.ep_pass.specs.Pass.{all_faults, report_of}
use Rattle.ep_pass.specs.Laws.{ConcretisesTyped, EndAlike, Lawful}
use Rattle.ep_pass.specs.Agreement.{AgreeInTheEnd}
use Rattle.ep_pass.proofs.Outcomes.{IsCall}
use Rattle.ep_pass.proofs.Text.{call_part}
use Rattle.ep_pass.proofs.Sure.{Reaches, Sure}
use Rattle.ep_pass.proofs.Cuts.{front_empty, back_empty, Cut, left_cut, right_cut}
use Rattle.ep_pass.proofs.Reaching.{no_alarms, Together, both_leave, both_starved, one_cut, less_left, less_right}
use Rattle.ep_pass.proofs.Settling.{AreSound, tried_sound}
use Rattle.ep_pass.proofs.Rounds.{Ahead}
use Rattle.ep_pass.proofs.Statements.{main_together}
use Rattle.ep_pass.proofs.Keeping.{sure, start_in}
use Rattle.ep_pass.proofs.Runs.{finished_begins, Covered, IsCovered, agree_in_the_end}

-- ---- an empty report has no events

none_shown : (es : List Event) → map alarm_of es ≡ [] → es ≡ []
none_shown [] e = refl
none_shown (x ∷ es) e = absurd cc

module _ (prog : Program) (formed : is_well_formed prog ≡ true) (ord : Side → Order) {S : Type 0} (o : StateOps S)
    (In : S → Memory → Memory → Type 0) (law : Lawful prog ord o In) (u : ℕ) (heads : Heads S) where
  abbrev K : S → State → State → Type 0
  K = ConcretisesTyped prog In

  laws : Sure prog ord o K
  laws = sure prog formed ord o In law

  abbrev whole : Pass S
  whole = main_pass o u heads ord prog

  abbrev last : Option S
  last = join_on o whole.ways.returned whole.on

  -- ---- the end of main

  outputs_at : (v : Option S) (x y : State) → Reaches K v x y → x.outputs ≡ y.outputs
  outputs_at None x y i = absurd i
  outputs_at (Some s) x y i = i.stands.outputs

  ends_alike : (g : Option Function) → slice_get prog.functions prog.main ≡ g → (v : Option S) (x y : State)
      → Reaches K v x y → faults_at_end o g v ≡ []
      → EndAlike (main_ends (ord left) prog (result_in g) (line_of (ord left) prog g) x)
      (main_ends (ord right) prog (result_in g) (line_of (ord right) prog g) y)
  ends_alike None e v x y i q = record { defined = tt; ending = refl; outputs = outputs_at v x y i }
  ends_alike (Some f) e None x y i q = absurd i
  ends_alike (Some f) e (Some s) x y i q = law.ended_sound f e s x y i (no_alarms f.line (o.ended f s) q)

  left_alike : (x y : Run) → EndAlike x y → Covered x y
  left_alike x y h = record {
    defined = h.defined;
    far = record {
      outputs = subst (Begins x.outputs) h.outputs (begins_refl x.outputs);
      over = λ e. (h.ending, h.outputs);
    };
  }

  right_alike : (x y : Run) → EndAlike x y → Covered y x
  right_alike x y h =
      left_alike y x (record {
        defined = subst IsDefined h.ending h.defined;
        ending = sym h.ending;
        outputs = sym h.outputs;
      })

  starved : (x y : State) → x.outputs ≡ y.outputs → EndAlike (run_of wants_input x) (run_of wants_input y)
  starved x y e = record { defined = tt; ending = refl; outputs = e }

  stopped : (a b : Order) (s : State) (d : Outcome) → Begins s.outputs (state_in d).outputs
      → Covered (run_of still_running s) (finished b prog d)
  stopped a b s d e = record {
    defined = tt;
    far = record { outputs = begins_trans _ _ _ e (finished_begins b prog d); over = λ e. absurd e };
  }

  -- ---- runs by turns

  abbrev quiet_end : Type 0
  quiet_end = faults_at_end o (slice_get prog.functions prog.main) last ≡ []

  both_end : quiet_end → (v : Option S) (x y : State) → ((x y : State) → Reaches K v x y → Reaches K last x y)
      → Reaches K v x y
      → EndAlike
      (main_ends (ord left) prog (result_in (main_function (ord left) prog))
      (line_of (ord left) prog (main_function (ord left) prog)) x)
      (main_ends (ord right) prog (result_in (main_function (ord right) prog))
      (line_of (ord right) prog (main_function (ord right) prog)) y)
  both_end q v x y less i = ends_alike (slice_get prog.functions prog.main) refl last x y (less x y i) q

  at_end : (x y : State) → Reaches K whole.on x y → Reaches K last x y
  at_end = less_right prog ord o K laws whole.ways.returned whole.on

  by_return : (x y : State) → Reaches K whole.ways.returned x y → Reaches K last x y
  by_return = less_left prog ord o K laws whole.ways.returned whole.on

  left_cut_covers : (c d : Outcome) → Cut left c d → Covered (finished (ord left) prog c) (finished (ord right) prog d)
  left_cut_covers p q (left_cut {x} {d} e) = stopped (ord left) (ord right) x d e

  right_cut_covers : (c d : Outcome) → Cut right c d → Covered (finished (ord right) prog d)
      (finished (ord left) prog c)
  right_cut_covers p q (right_cut {c} {y} e) = stopped (ord right) (ord left) y c e

  module _ (b : Side → ℕ) where
    left_covered : quiet_end → (c d : Outcome) → IsCall c → Together K b left whole c d
        → Covered (finished (ord left) prog c) (finished (ord right) prog d)
    left_covered q c d h (both_leave on {x} {y} i) = left_alike _ _ (both_end q whole.on x y at_end i)
    left_covered q c d h (both_leave broken {x} {y} i) = absurd h
    left_covered q c d h (both_leave continued {x} {y} i) = absurd h
    left_covered q c d h (both_leave returned {x} {y} i) =
        left_alike _ _ (both_end q whole.ways.returned x y by_return i)
    left_covered q c d h (both_starved {x} {y} e) = left_alike _ _ (starved x y e)
    left_covered q c d h (one_cut t) = left_cut_covers c d t

    right_covered : quiet_end → (c d : Outcome) → IsCall c → Together K b right whole c d
        → Covered (finished (ord right) prog d) (finished (ord left) prog c)
    right_covered q c d h (both_leave on {x} {y} i) = right_alike _ _ (both_end q whole.on x y at_end i)
    right_covered q c d h (both_leave broken {x} {y} i) = absurd h
    right_covered q c d h (both_leave continued {x} {y} i) = absurd h
    right_covered q c d h (both_leave returned {x} {y} i) =
        right_alike _ _ (both_end q whole.ways.returned x y by_return i)
    right_covered q c d h (both_starved {x} {y} e) = right_alike _ _ (starved x y e)
    right_covered q c d h (one_cut t) = right_cut_covers c d t

  -- main is left by no jump
  main_call : (r : Order) (f : Option Function) → slice_get prog.functions prog.main ≡ f → (n : ℕ) (s : State)
      → IsCall (body_of r prog uncounted f prog.main (bodies r prog uncounted prog.main) n s)
  main_call r None e n s = tt
  main_call r (Some f) e n s =
      call_part r prog uncounted prog.main (bodies r prog uncounted prog.main) (result_type prog.blocks f.result) f.body
      (frame_of f) (fits_at prog formed prog.main f e).2 n s

  abbrev bounds : ℕ → ℕ → Side → ℕ
  bounds n m left = n
  bounds n m right = m

  more_than : (n m : ℕ) → u < n → u < m → (s : Side) → u ≤ bounds n m s
  more_than n m h k left = omega arith
  more_than n m h k right = omega arith

  module _ (headed : AreSound K heads) (empty : all_faults o u heads ord prog ≡ []) where
    together : (b : Side → ℕ) (slow : Side) → Ahead u slow (suc (b left)) (suc (b right)) → ((m : Side) → u ≤ b m)
        → (inputs : List ℕ)
        → Together K b slow whole (main_from (ord left) prog uncounted inputs (b left))
        (main_from (ord right) prog uncounted inputs (b right))
    together b slow ahead le inputs =
        main_together prog formed ord o K laws u heads b slow headed ahead le inputs (start_in prog formed ord o In law inputs)
        (front_empty whole.log.faults _ empty)

    left_runs : IsCovered prog u (ord left) (ord right)
    left_runs inputs n m h k =
        left_covered (bounds n m) (back_empty whole.log.faults _ empty) _ _
        (main_call (ord left) (slice_get prog.functions prog.main) refl n (start (ord left) prog inputs))
        (together (bounds n m) left (omega arith) (more_than n m h (omega arith)) inputs)

    right_runs : IsCovered prog u (ord right) (ord left)
    right_runs inputs n m h k =
        right_covered (bounds m n) (back_empty whole.log.faults _ empty) _ _
        (main_call (ord left) (slice_get prog.functions prog.main) refl m (start (ord left) prog inputs))
        (together (bounds m n) right (omega arith) (more_than m n (omega arith) h) inputs)

  -- by steps, along each interleaving, and in the end
  pub nothing_found : AreSound K heads → all_faults o u heads ord prog ≡ []
      → AgreeInTheEnd prog (ord left) (ord right)
  nothing_found headed e =
      agree_in_the_end prog u (ord left) (ord right) (left_runs headed e) (right_runs headed e)

-- of the analysis
pub sound : (prog : Program) → is_well_formed prog ≡ true → (ord : Side → Order) → {S : Type 0} → (o : StateOps S)
    → (In : S → Memory → Memory → Type 0) → Lawful prog ord o In → (u limit : ℕ) → report_of o u limit ord prog ≡ []
    → AgreeInTheEnd prog (ord left) (ord right)
sound prog formed ord o In law u limit e =
    let found = all_faults o u (tried o limit) ord prog in
    nothing_found prog formed ord o In law u (tried o limit)
    (tried_sound prog ord o (ConcretisesTyped prog In) (sure prog formed ord o In law) limit)
    (none_shown found (no_faults (map alarm_of found) e))
