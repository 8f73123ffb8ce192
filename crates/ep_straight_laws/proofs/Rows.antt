-- Rows of straight statements, over what is shown of each statement: they are passed without a fault, and both machines
-- go on alike, or the machines come apart.
use Rattle.std.proofs.Common.{◌≡◌, ◌≢◌, ℕ, zero, suc, ◌+◌, ◌≤◌, ◌⊎◌, inl, inr, pos, Bool, true, false, List, [], ◌∷◌}
use Rattle.std.proofs.Common.{◌++◌, length, map, slice_get, refl, sym, ap, ◌∙◌, subst, Option, Some, None, arith}
use Rattle.std.proofs.lemmas.Bool.{and_parts}
use Rattle.ep_int.specs.declared.types.Order.{Order}
use Rattle.ep_int.specs.declared.types.Scalar.{Scalar}
use Rattle.ep_int.specs.declared.types.IntType.{IntType}
use Rattle.ep_int.specs.Memory.{Value, int, null, pointer, Kind, Found, has, faults, store_fault, range_fault, Byte}
use Rattle.ep_int.specs.Memory.{undefined, number, fragment}
use Rattle.ep_int.specs.Types.{wrapped}
use Rattle.ep_alarms.specs.Report.{gathered}
use Rattle.ep_core.specs.Program.{Dest, Simple, nothing, eval, assign, clear, copy_aggregate, copy_bytes, fill, input}
use Rattle.ep_core.specs.Program.{output, read_bytes, write_bytes, returns, What, simple, call, if_else, loop}
use Rattle.ep_core.specs.Program.{break_loop, continue_loop, by_order, scope, Stmts, stop, more, Function, Program}
use Rattle.ep_core.specs.Exec.{State, Way, on, broken, continued, returned, Outcome, leaves, running, no_input}
use Rattle.ep_core.specs.Exec.{undefined_at, Going, uncounted, and_then, given, with_int, at_place, unless, taken}
use Rattle.ep_core.specs.Exec.{put_out, byte_out, bytewise, bytewise_rest, out_of, converted, result_in, frame_of}
use Rattle.ep_core.specs.Exec.{model, size_at, value, address, put_to, put_dest, does, exec_all, body_of, bodies}
use Rattle.ep_core.specs.Runs.{Side, left, right, main_from, start, Agree}
use Rattle.ep_core.specs.WellFormed.{result_type, simple_fits, stmts_fit, is_well_formed}
use Rattle.ep_core.proofs.Grows.{Growing, all_grow, bodies_grow}
use Rattle.ep_core.proofs.Operands.{fits_at}
use Rattle.ep_pass.specs.States.{Mode, Both, Fault, Transfer, StateOps}
use Rattle.ep_pass.specs.Pass.{Ways, none, Event, alarm_of, tried, Pass, found_at, way_of, simple_pass, then_pass, join_on, pass_all}
use Rattle.ep_pass.specs.Pass.{body_pass, bodies_pass, faults_at_end, all_faults, report_of}
use Rattle.ep_pass.proofs.Sure.{Meets, meet_on, meet_none}
use Rattle.ep_straight_laws.specs.Straight.{is_straight_step, are_straight}
use Rattle.ep_straight_laws.proofs.Runs.{Apart, apart_then, Stops, never_apart, ones_of, length-ones, are_inputs}
use Rattle.ep_straight_laws.proofs.Runs.{AreOnes, are_ones}

pub none_or_some : {A : Type 0} (fs : List A) → (fs ≡ []) ⊎ (fs ≢ [])
none_or_some [] = inl refl
none_or_some (f ∷ fs) = inr (λ e. cc)

-- the inputs that a statement takes
abbrev pub needs : Simple → ℕ
needs nothing = 0
needs (eval e) = 0
needs (assign what a e) = 0
needs (clear a ty) = 0
needs (copy_aggregate a b ty) = 0
needs (copy_bytes a b n) = 0
needs (fill a e n) = 0
needs (input t d) = 1
needs (output t e) = 0
needs (read_bytes e n) = 0
needs (write_bytes e n) = 0
needs (returns e) = 0

abbrev pub needs_in : What → ℕ
needs_in (simple w) = needs w
needs_in (call k es d) = 0
needs_in (if_else e a b) = 0
needs_in (loop first e a b) = 0
needs_in break_loop = 0
needs_in continue_loop = 0
needs_in (by_order o a b) = 0
needs_in (scope bs a) = 0

abbrev pub needs_all : Stmts → ℕ
needs_all stop = 0
needs_all (more l w rest) = needs_in w + needs_all rest

-- so many inputs are left where it goes on, and they have not run out
abbrev pub Fed : ℕ → Outcome → Type 0
Fed j (leaves w n s) = j ≤ length s.inputs
Fed j (running s) = ⊥
Fed j (no_input s) = ⊥
Fed j (undefined_at l u s) = Unit {0}

fed_stops : (x : Outcome) → Fed 0 x → Stops x
fed_stops (leaves w n s) h = tt
fed_stops (running s) h = h
fed_stops (no_input s) h = absurd h
fed_stops (undefined_at l k s) h = tt

given_fed : (v : Found) (l j : ℕ) (s : State) (go : Value → Outcome) → ((v : Value) → Fed j (go v))
    → Fed j (given v l s go)
given_fed (has v) l j s go h = h v
given_fed (faults u) l j s go h = tt

at_place_fed : (v : Value) (l j : ℕ) (s : State) (go : ℕ → ℕ → Outcome) → ((b q : ℕ) → Fed j (go b q))
    → Fed j (at_place v l s go)
at_place_fed (int v) l j s go h = tt
at_place_fed null l j s go h = tt
at_place_fed (pointer b q) l j s go h = h b q

unless_fed : (u : Option Kind) (l j : ℕ) (s : State) (x : Outcome) → Fed j x → Fed j (unless u l s x)
unless_fed None l j s x h = h
unless_fed (Some u) l j s x h = tt

number_fed : (t : IntType) (v : Value) (l n j : ℕ) (s : State) → j ≤ length s.inputs
    → Fed j (with_int v l s (λ x. leaves on n (put_out t x s)))
number_fed t (int v) l n j s h = h
number_fed t null l n j s h = tt
number_fed t (pointer b q) l n j s h = tt

byte_fed : (b : Byte) (l j : ℕ) (s : State) (go : State → Outcome) → j ≤ length s.inputs
    → ((r : State) → j ≤ length r.inputs → Fed j (go r)) → Fed j (byte_out b l s go)
byte_fed undefined l j s go g h = tt
byte_fed (number v) l j s go g h = h _ g
byte_fed (fragment b o p) l j s go g h = tt

taken_fed : (vs : List ℕ) (j : ℕ) (s : State) (go : ℕ → State → Outcome) → suc j ≤ length vs
    → ((v : ℕ) (r : State) → j ≤ length r.inputs → Fed j (go v r)) → Fed j (taken vs s go)
taken_fed [] j s go h f = absurd (omega arith)
taken_fed (v ∷ vs) j s go h f = f v _ (omega arith)

module _ (o : Order) (p : Program) where
  bytes_fed : (count b here l n j : ℕ) (s : State) → j ≤ length s.inputs
      → Fed j (bytewise uncounted (out_of o p b l) count here n s)
  bytes_fed zero b here l n j s h = h
  bytes_fed (suc k) b here l n j s h =
      byte_fed (s.memory b here) l j s _ h (λ r g. bytes_fed k b (here + 1) l n j r g)

  rest_fed : (count b here l n j : ℕ) (s : State) → j ≤ length s.inputs
      → Fed j (bytewise_rest uncounted (out_of o p b l) count here n s)
  rest_fed zero b here l n j s h = h
  rest_fed (suc k) b here l n j s h =
      byte_fed (s.memory b here) l j s _ h (λ r g. bytes_fed k b (here + 1) l n j r g)

  put_fed : (what : Scalar) (w v : Value) (l n j : ℕ) (s : State) → j ≤ length s.inputs
      → Fed j (put_to o p what w v l s (leaves on n))
  put_fed what w v l n j s h = at_place_fed w l j s _ (λ b q. unless_fed (store_fault (model o p)
      (size_at o p b) what q) l j s _ h)

  dest_fed : (d : Option Dest) (v : Value) (l n j : ℕ) (s : State) → j ≤ length s.inputs → Fed j
      (put_dest o p d v l n s)
  dest_fed None v l n j s h = h
  dest_fed (Some d) v l n j s h =
      given_fed (address o p d.place s.memory) l j s _ (λ w. put_fed d.what w (converted d.what v) l n j s h)

  pub does_fed : (r : Option (ℕ × Scalar)) (w : Simple) (l n j : ℕ) (s : State) → is_straight_step p w ≡ true
      → needs w + j ≤ length s.inputs → Fed j (does o p uncounted r w l n s)
  does_fed r nothing l n j s e h = omega arith
  does_fed r (eval e) l n j s f h = given_fed (value o p e s.memory) l j s _ (λ v. omega arith)
  does_fed r (assign what a e) l n j s f h =
      given_fed (address o p a s.memory) l j s _
      (λ w. given_fed (value o p e s.memory) l j s _ (λ v. put_fed what w v l n j s (omega arith)))
  does_fed r (clear a ty) l n j s f h = absurd (cc)
  does_fed r (copy_aggregate a b ty) l n j s f h = absurd (cc)
  does_fed r (copy_bytes a b k) l n j s f h = absurd (cc)
  does_fed r (fill a e k) l n j s f h = absurd (cc)
  does_fed r (input t d) l n j s f h =
      taken_fed s.inputs j s _ (omega arith) (λ v r g. dest_fed d (int (wrapped t (pos v))) l n j r g)
  does_fed r (output t e) l n j s f h =
      given_fed (value o p e s.memory) l j s _ (λ v. number_fed t v l n j s (omega arith))
  does_fed r (read_bytes e k) l n j s f h = absurd (cc)
  does_fed r (write_bytes e k) l n j s f h =
      given_fed (value o p e s.memory) l j s _
      (λ w. at_place_fed w l j s _
      (λ b q. unless_fed (range_fault (size_at o p b) q k) l j s _ (rest_fed k b q l n j s (omega arith))))
  does_fed r (returns e) l n j s f h = absurd (cc)

-- straight statements are left at their end
pub way_on : (p : Program) (w : Simple) → is_straight_step p w ≡ true → way_of w ≡ on
way_on p nothing e = refl
way_on p (eval e) f = refl
way_on p (assign what a e) f = refl
way_on p (clear a ty) f = absurd (cc)
way_on p (copy_aggregate a b ty) f = absurd (cc)
way_on p (copy_bytes a b k) f = absurd (cc)
way_on p (fill a e k) f = absurd (cc)
way_on p (input t d) f = refl
way_on p (output t e) f = refl
way_on p (read_bytes e k) f = absurd (cc)
way_on p (write_bytes e k) f = refl
way_on p (returns e) f = absurd (cc)

-- What is shown of each straight statement, of states and machines of which V holds: without a fault both machines go on
-- and V holds again, or they want an input; with one they come apart.
pub record Steps (p : Program) (ord : Side → Order) {S : Type 0} (o : StateOps S) (result : Option (ℕ × Scalar))
    (seen : List ℕ) (V : S → State → State → Type 0) : Type 0 where
  pub goes : (w : Simple) → is_straight_step p w ≡ true
      → simple_fits p p.main (result_type p.blocks result) w seen ≡ true
      → (l n m : ℕ) (s : S) (x y : State) → V s x y → (o.simple Both result w s).faults ≡ []
      → Meets V on (o.simple Both result w s).next n m (does (ord left) p uncounted result w l n x)
      (does (ord right) p uncounted result w l m y)
  pub parts : (w : Simple) → is_straight_step p w ≡ true
      → simple_fits p p.main (result_type p.blocks result) w seen ≡ true
      → (l n m : ℕ) (s : S) (x y : State) → V s x y → (o.simple Both result w s).faults ≢ []
      → Apart (does (ord left) p uncounted result w l n x) (does (ord right) p uncounted result w l m y)

module _ (p : Program) (ord : Side → Order) {S : Type 0} (o : StateOps S) (V : S → State → State → Type 0)
    (u limit : ℕ) where
  abbrev result : Option (ℕ × Scalar)
  result = result_in (slice_get p.functions p.main)

  abbrev Bodies : Type 0
  Bodies = ℕ → (before : ℕ) → Mode → S → Pass S

  abbrev all : Bodies → Stmts → S → Ways S → Pass S
  all ps ss s w = pass_all o u (tried o limit) ord p p.main ps ss 0 Both s w

  abbrev do_all : Side → (ℕ → Going) → Stmts → Going
  do_all i bs ss n s = exec_all (ord i) p uncounted p.main bs ss n s

  -- the row is passed without a fault, and both machines go on alike
  pub record Quiet (q : Pass S) (n m : ℕ) (x y : Outcome) : Type 0 where
    pub quiet : q.log.faults ≡ []
    pub meets : Meets V on q.on n m x y

  abbrev Comes : Pass S → ℕ → ℕ → Outcome → Outcome → Type 0
  Comes q n m x y = Quiet q n m x y ⊎ Apart x y

  -- a pass through the rest after a statement
  abbrev rest_pass : Bodies → Way → ℕ → Transfer S → Stmts → Pass S
  rest_pass ps k l g rest = then_pass o (simple_pass k l g) none (λ s w. all ps rest s w)

  -- they are left at their end alone
  pub no_ways : (ps : Bodies) (ss : Stmts) (s : S) → are_straight p ss ≡ true → (all ps ss s none).ways ≡ none
  no_ways ps stop s e = refl
  no_ways ps (more l (simple w) rest) s e =
      let a = and_parts (is_straight_step p w) (are_straight p rest) e in
      subst (λ k. (rest_pass ps k l (o.simple Both result w s) rest).ways ≡ none) (sym (way_on p w a.0))
      (by_next (o.simple Both result w s).faults (o.simple Both result w s).next (λ s'. no_ways ps rest s' a.1))
    where
      by_next : (fs : List Fault) (v : Option S) → ((s' : S) → (all ps rest s' none).ways ≡ none)
          → (rest_pass ps on l (record { faults = fs; next = v }) rest).ways ≡ none
      by_next fs None h = refl
      by_next fs (Some s') h = h s'
  no_ways ps (more l (call k es d) rest) s e = absurd (cc)
  no_ways ps (more l (if_else c a b) rest) s e = absurd (cc)
  no_ways ps (more l (loop first c a b) rest) s e = absurd (cc)
  no_ways ps (more l break_loop rest) s e = absurd (cc)
  no_ways ps (more l continue_loop rest) s e = absurd (cc)
  no_ways ps (more l (by_order r a b) rest) s e = absurd (cc)
  no_ways ps (more l (scope bs a) rest) s e = absurd (cc)

  module _ (seen : List ℕ) (law : Steps p ord o result seen V) (ps : Bodies) (bl br : ℕ → Going)
      (left_grow : (k : ℕ) → Growing (bl k)) (right_grow : (k : ℕ) → Growing (br k)) where
    abbrev fits_all : Stmts → Bool
    fits_all ss = stmts_fit p p.main (result_type p.blocks result) ss seen false

    after_quiet : (rest : Stmts) (j l n m : ℕ) (fs : List Fault) (v : Option S) (x y : Outcome) → fs ≡ [] → Fed j x
        → Meets V on v n m x y
        → ((s : S) (a b : State) → V s a b → j ≤ length a.inputs
        → Comes (all ps rest s none) n m (do_all left bl rest n a) (do_all right br rest m b))
        → Comes (rest_pass ps on l (record { faults = fs; next = v }) rest) n m (and_then x (do_all left bl rest))
        (and_then y (do_all right br rest))
    after_quiet rest j l n m fs None c d e fed (meet_on i) go = absurd i
    after_quiet rest j l n m fs (Some s) c d e fed (meet_on {x} {y} i) go = elim (go s x y i fed) [
      | inl h ↦ inl (record {
        quiet = ap (λ z. found_at l z ++ (all ps rest s none).log.faults) e ∙ h.quiet;
        meets = h.meets;
      })
      | inr d ↦ inr d
    ]
    after_quiet rest j l n m fs v c d e fed (meet_none i) go = absurd fed

    pub all_come : (ss : Stmts) (n m : ℕ) (s : S) (x y : State) → are_straight p ss ≡ true → fits_all ss ≡ true
        → needs_all ss ≤ length x.inputs → V s x y
        → Comes (all ps ss s none) n m (do_all left bl ss n x) (do_all right br ss m y)
    all_come stop n m s x y g h c i = inl (record { quiet = refl; meets = meet_on i })
    all_come (more l (simple w) rest) n m s x y g h c i =
        let a = and_parts (is_straight_step p w) (are_straight p rest) g in
        let b = and_parts (simple_fits p p.main (result_type p.blocks result) w seen) (fits_all rest) h in
        let f : ℕ = needs_all rest in
        subst (λ k. Comes (rest_pass ps k l (o.simple Both result w s) rest) n m
        (and_then (does (ord left) p uncounted result w l n x) (do_all left bl rest))
        (and_then (does (ord right) p uncounted result w l m y) (do_all right br rest))) (sym (way_on p w a.0))
        (elim (none_or_some (o.simple Both result w s).faults) [
          | inl e ↦ after_quiet rest (needs_all rest) l n m (o.simple Both result w s).faults
              (o.simple Both result w s).next
              (does (ord left) p uncounted result w l n x) (does (ord right) p uncounted result w l m y) e
              (does_fed (ord left) p result w l n (needs_all rest) x a.0 c)
              (law.goes w a.0 b.0 l n m s x y i e)
              (λ s' x' y' i' c'. all_come rest n m s' x' y' a.1 b.1 c' i')
          | inr e ↦ inr (apart_then (does (ord left) p uncounted result w l n x) (does
              (ord right) p uncounted result w l m y)
              (do_all left bl rest) (do_all right br rest) (all_grow (ord left) p uncounted p.main bl left_grow rest)
              (all_grow (ord right) p uncounted p.main br right_grow rest) (law.parts w a.0 b.0 l n m s x y i e))
        ])
    all_come (more l (call k es d) rest) n m s x y g h c i = absurd (cc)
    all_come (more l (if_else e a b) rest) n m s x y g h c i = absurd (cc)
    all_come (more l (loop first e a b) rest) n m s x y g h c i = absurd (cc)
    all_come (more l break_loop rest) n m s x y g h c i = absurd (cc)
    all_come (more l continue_loop rest) n m s x y g h c i = absurd (cc)
    all_come (more l (by_order r a b) rest) n m s x y g h c i = absurd (cc)
    all_come (more l (scope bs a) rest) n m s x y g h c i = absurd (cc)

  -- ---- a machine of a straight row stops

  then_fed : (x : Outcome) (j : ℕ) (go : Going) → Fed j x
      → ((n : ℕ) (s : State) → j ≤ length s.inputs → Fed 0 (go n s)) → Fed 0 (and_then x go)
  then_fed (leaves on n s) j go h g = g n s h
  then_fed (leaves broken n s) j go h g = omega arith
  then_fed (leaves continued n s) j go h g = omega arith
  then_fed (leaves returned n s) j go h g = omega arith
  then_fed (running s) j go h g = absurd h
  then_fed (no_input s) j go h g = absurd h
  then_fed (undefined_at l k s) j go h g = tt

  all_fed : (i : Side) (bs : ℕ → Going) (ss : Stmts) (n : ℕ) (s : State) → are_straight p ss ≡ true
      → needs_all ss ≤ length s.inputs → Fed 0 (do_all i bs ss n s)
  all_fed i bs stop n s g h = omega arith
  all_fed i bs (more l (simple w) rest) n s g h =
      let a = and_parts (is_straight_step p w) (are_straight p rest) g in
      then_fed (does (ord i) p uncounted result w l n s) (needs_all rest) (do_all i bs rest)
      (does_fed (ord i) p result w l n (needs_all rest) s a.0 h) (λ m r c. all_fed i bs rest m r a.1 c)
  all_fed i bs (more l (call k es d) rest) n s g h = absurd (cc)
  all_fed i bs (more l (if_else e a b) rest) n s g h = absurd (cc)
  all_fed i bs (more l (loop first e a b) rest) n s g h = absurd (cc)
  all_fed i bs (more l break_loop rest) n s g h = absurd (cc)
  all_fed i bs (more l continue_loop rest) n s g h = absurd (cc)
  all_fed i bs (more l (by_order r a b) rest) n s g h = absurd (cc)
  all_fed i bs (more l (scope xs a) rest) n s g h = absurd (cc)

  -- ---- whole programs

  -- One input for each that main takes: it is straight, its statements keep V, which holds at its beginning where all
  -- inputs are one, and at its end the result has no fault.
  pub record Straight (f : Function) : Type 0 where
    pub here : slice_get p.functions p.main ≡ Some f
    pub straight : are_straight p f.body ≡ true
    pub steps : Steps p ord o result (frame_of f) V
    pub starts : (inputs : List ℕ) → AreOnes inputs → V o.entry (start (ord left) p inputs) (start
        (ord right) p inputs)
    pub ends : (s : S) (x y : State) → V s x y → o.ended f s ≡ []

  module _ (formed : is_well_formed p ≡ true) (f : Function) (law : Straight f) where
    abbrev inputs : List ℕ
    inputs = ones_of (needs_all f.body)

    abbrev run_of : Side → Outcome
    run_of i = exec_all (ord i) p uncounted p.main (bodies (ord i) p uncounted p.main) f.body 0 (start
        (ord i) p inputs)

    main_is : (i : Side) → main_from (ord i) p uncounted inputs 0 ≡ run_of i
    main_is i =
        ap (λ g. body_of (ord i) p uncounted g p.main (bodies (ord i) p uncounted p.main) 0 (start
        (ord i) p inputs)) law.here

    abbrev whole : Pass S
    whole = all (bodies_pass o u (tried o limit) ord p p.main) f.body o.entry none

    comes : Comes whole 0 0 (run_of left) (run_of right)
    comes =
        all_come (frame_of f) law.steps (bodies_pass o u (tried o limit) ord p p.main) (bodies (ord left) p uncounted p.main)
        (bodies (ord right) p uncounted p.main) (bodies_grow (ord left) p uncounted p.main)
        (bodies_grow (ord right) p uncounted p.main) f.body 0 0 o.entry (start (ord left) p inputs)
        (start (ord right) p inputs) law.straight
        (subst (λ g. stmts_fit p p.main (result_type p.blocks (result_in g)) f.body (frame_of f) false ≡ true)
        (sym law.here) (fits_at p formed p.main f law.here).2) (length-ones (needs_all f.body))
        (law.starts inputs (are_ones (needs_all f.body)))

    stops : (i : Side) → Stops (main_from (ord i) p uncounted inputs 0)
    stops i =
        subst Stops (sym (main_is i))
        (fed_stops (run_of i)
        (all_fed i (bodies (ord i) p uncounted p.main) f.body 0 (start (ord i) p inputs) law.straight
        (length-ones (needs_all f.body))))

    end_quiet : (v : Option S) (x y : Outcome) → Meets V on v 0 0 x y → Fed 0 x
        → faults_at_end o (Some f) v ≡ []
    end_quiet None x y (meet_on i) h = refl
    end_quiet (Some s) c d (meet_on {x} {y} i) h = ap (found_at f.line) (law.ends s x y i)
    end_quiet v x y (meet_none e) h = absurd h

    abbrev faults_of : Pass S → Option Function → List Event
    faults_of q g = q.log.faults ++ faults_at_end o g (join_on o q.ways.returned q.on)

    quiet_faults : Quiet whole 0 0 (run_of left) (run_of right) → faults_of whole (Some f) ≡ []
    quiet_faults h =
        ap (λ z. z ++ faults_at_end o (Some f) (join_on o whole.ways.returned whole.on)) h.quiet
        ∙ ap (λ (w : Ways S). faults_at_end o (Some f) (join_on o w.returned whole.on))
        (no_ways (bodies_pass o u (tried o limit) ord p p.main) f.body o.entry law.straight)
        ∙ end_quiet whole.on (run_of left) (run_of right) h.meets
        (all_fed left (bodies (ord left) p uncounted p.main) f.body 0 (start (ord left) p inputs) law.straight
        (length-ones (needs_all f.body)))

    all_quiet : faults_of whole (Some f) ≡ [] → all_faults o u (tried o limit) ord p ≡ []
    all_quiet e =
        ap (λ g. faults_of (body_pass o u (tried o limit) ord p g p.main
        (bodies_pass o u (tried o limit) ord p p.main) 0 Both o.entry) g) law.here ∙ e

    -- the machines agree, so nothing is reported
    pub exact : Agree p (ord left) (ord right) → report_of o u limit ord p ≡ []
    exact agree = elim comes [
      | inl h ↦ ap (λ es. gathered (map alarm_of es)) (all_quiet (quiet_faults h))
      | inr d ↦ absurd
          (never_apart p (ord left) (ord right) agree inputs (are_inputs (needs_all f.body)) (stops left)
          (stops right)
          (subst (λ z. Apart z (main_from (ord right) p uncounted inputs 0)) (sym (main_is left))
          (subst (λ z. Apart (run_of left) z) (sym (main_is right)) d)))
    ]
