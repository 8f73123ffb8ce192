-- Where a run by turns is stopped, enough steps come as far: what was put out by then is put out.
use Rattle.std.proofs.Common.{◌≡◌, ℕ, zero, suc, ◌+◌, ◌-◌, ◌≤◌, List, [], ◌∷◌, sym, subst, Option, Some, None}
use Rattle.std.proofs.Common.{option_to_list, arith, nat_eq, slice_get, Bool, true, false}
use Rattle.ep_int.specs.declared.types.Scalar.{Scalar}
use Rattle.ep_int.specs.declared.types.Order.{Order}
use Rattle.ep_int.specs.Memory.{Memory, Value, Kind, Found, has, faults, stored, store_fault}
use Rattle.ep_core.specs.Program.{Expr, Dest, What, simple, call, if_else, loop, break_loop, continue_loop, by_order}
use Rattle.ep_core.specs.Program.{scope, Stmts, stop, more, Function, Program}
use Rattle.ep_core.specs.Exec.{State, Way, on, broken, continued, returned, Outcome, leaves, running, no_input}
use Rattle.ep_core.specs.Exec.{undefined_at, Going, given, unless, counted, uncounted, step, and_then, remembers}
use Rattle.ep_core.specs.Exec.{without, is_true, either, turned, turn, looped, around, first_turn, scope_left}
use Rattle.ep_core.specs.Exec.{is_order, chosen, arm_left, Values, have, stops, given_all, first_of, frame_of}
use Rattle.ep_core.specs.Exec.{result_in, callee_of, model, size_at, value, values, bound, received, called, call_of}
use Rattle.ep_core.specs.Exec.{exec, exec_all, body_of, bodies}
use Rattle.ep_core.specs.Runs.{Begins}
use Rattle.ep_core.proofs.Prefixes.{begins_refl, begins_trans}
use Rattle.ep_core.proofs.Grows.{state_in, grown, Growing, and_then_grows, looped_grows, all_grow, received_grows}
use Rattle.ep_core.proofs.Around.{around_is, first_is}
use Rattle.ep_core.proofs.Reached.{Enough, Reached, Reaching, exec_reached, all_reached, body_reaching, bodies_reaching}
use Rattle.ep_pass.proofs.Cuts.{then_begins, scope_ends, arms_end}
use Rattle.ep_pass.proofs.Stopping.{Stops, received_stops, does_stops}

-- with so many steps or more, f puts out what s did
pub record Puts (f : ℕ → Outcome) (s : State) : Type 0 where
  pub from : ℕ
  pub puts : (left : ℕ) → from ≤ left → Begins s.outputs (state_in (f left)).outputs

-- with enough steps f comes as far as y, where y is stopped
abbrev pub Passed : (ℕ → Outcome) → Outcome → Type 0
Passed f (leaves w k s) = Unit {0}
Passed f (running s) = Puts f s
Passed f (no_input s) = Unit {0}
Passed f (undefined_at l k s) = Unit {0}

never_stops : (f : ℕ → Outcome) (y : Outcome) → Stops y → Passed f y
never_stops f (leaves w k s) h = tt
never_stops f (running s) h = absurd h
never_stops f (no_input s) h = tt
never_stops f (undefined_at l k s) h = tt

-- f comes as far where g does
lift : (f g : ℕ → Outcome) (y : Outcome) → ((s : State) → Puts g s → Puts f s) → Passed g y → Passed f y
lift f g (leaves w k s) h e = tt
lift f g (running s) h e = h s e
lift f g (no_input s) h e = tt
lift f g (undefined_at l k s) h e = tt

same_passed : (f g : ℕ → Outcome) (y : Outcome) → ((left : ℕ) → f left ≡ g left) → Passed g y → Passed f y
same_passed f g y h e =
    lift f g y
    (λ s p. record {
      from = p.from;
      puts = λ left le. subst (λ x. Begins s.outputs (state_in x).outputs) (sym (h left)) (p.puts left le);
    }) e

-- a step, and what comes after it
stepped : (s r : State) (go : ℕ → Outcome) (from left : ℕ)
    → ((j : ℕ) → from ≤ j → Begins r.outputs (state_in (go j)).outputs) → suc from ≤ left
    → Begins r.outputs (state_in (step counted left s go)).outputs
stepped s r go from zero h le = absurd (omega arith)
stepped s r go from (suc j) h le = h j (omega arith)

step_passed : (s : State) (go : ℕ → Outcome) (y : Outcome) → Passed go y
    → Passed (λ left. step counted left s go) y
step_passed s go y e =
    lift (λ left. step counted left s go) go y
    (λ r p. record { from = suc p.from; puts = λ left le. stepped s r go p.from left p.puts le }) e

-- what comes after what is left
chained : (to : Outcome → Outcome) (w : Way) (s : State) (f : ℕ → Outcome) (y : Outcome)
    → Enough f (λ r. leaves w r s) → Passed (λ left. to (leaves w left s)) y → Passed (λ left. to (f left)) y
chained to w s f y e d =
    lift (λ left. to (f left)) (λ left. to (leaves w left s)) y
    (λ q p. record {
      from = e.cost + p.from;
      puts = λ left le. (let r : ℕ = left - e.cost in
          let sum : left ≡ e.cost + r = omega (arith, le) in
          let enough : p.from ≤ r = omega (arith, le) in
          subst (λ x. Begins q.outputs (state_in (to x)).outputs) (sym (e.reaches left r sum)) (p.puts r enough));
    }) d

-- what was put out stays
kept : (to : Outcome → Outcome) (f : ℕ → Outcome) (s : State)
    → ((x : Outcome) → Begins (state_in x).outputs (state_in (to x)).outputs) → Puts f s → Puts (λ left. to (f left)) s
kept to f s h p = record {
  from = p.from;
  puts = λ left le. begins_trans _ _ _ (p.puts left le) (h (f left));
}

given_passed : (v : Found) (l : ℕ) (s : State) (f : Value → ℕ → Outcome) (g : Value → Outcome)
    → ((v : Value) → Passed (f v) (g v)) → Passed (λ left. given v l s (λ v. f v left)) (given v l s g)
given_passed (has v) l s f g h = h v
given_passed (faults k) l s f g h = tt

given_all_passed : (vs : Values) (l : ℕ) (s : State) (f : List Value → ℕ → Outcome) (g : List Value → Outcome)
    → ((vs : List Value) → Passed (f vs) (g vs))
    → Passed (λ left. given_all vs l s (λ vs. f vs left)) (given_all vs l s g)
given_all_passed (have vs) l s f g h = h vs
given_all_passed (stops k) l s f g h = tt

unless_passed : (k : Option Kind) (l : ℕ) (s : State) (f : ℕ → Outcome) (y : Outcome) → Passed f y
    → Passed (λ left. unless k l s (f left)) (unless k l s y)
unless_passed None l s f y h = h
unless_passed (Some k) l s f y h = tt

-- counted and uncounted runs of one thing
pub record Passing (f g : Going) : Type 0 where
  pub reaching : Reaching f g
  pub passing : (n : ℕ) (s : State) → Passed (λ left. f left s) (g n s)

then_passed : (f : ℕ → Outcome) (y : Outcome) (go go' : Going) → Growing go → Reached f y → Passed f y
    → ((n : ℕ) (s : State) → Passed (λ left. go left s) (go' n s))
    → Passed (λ left. and_then (f left) go) (and_then y go')
then_passed f (leaves on k s) go go' g e d h = chained (λ x. and_then x go) on s f (go' k s) e (h k s)
then_passed f (leaves broken k s) go go' g e d h = tt
then_passed f (leaves continued k s) go go' g e d h = tt
then_passed f (leaves returned k s) go go' g e d h = tt
then_passed f (running s) go go' g e d h = kept (λ x. and_then x go) f s (λ x. then_begins x go g) d
then_passed f (no_input s) go go' g e d h = tt
then_passed f (undefined_at l k s) go go' g e d h = tt

-- ---- tests, loops, scopes and arms

either_passed : (t : Bool) (a b a' b' : Going) → ((n : ℕ) (s : State) → Passed (λ left. a left s) (a' n s))
    → ((n : ℕ) (s : State) → Passed (λ left. b left s) (b' n s)) → (n : ℕ) (s : State)
    → Passed (λ left. either t a b left s) (either t a' b' n s)
either_passed true a b a' b' p q n s = p n _
either_passed false a b a' b' p q n s = q n _

turned_begins : (x : Outcome) (next again : Going) → Growing next → Growing again
    → Begins (state_in x).outputs (state_in (turned x next again)).outputs
turned_begins (leaves on n s) next again g h =
    (grown s n _ (and_then_grows s n (next n s) again (g n s) h)).0
turned_begins (leaves broken n s) next again g h = begins_refl _
turned_begins (leaves continued n s) next again g h =
    (grown s n _ (and_then_grows s n (next n s) again (g n s) h)).0
turned_begins (leaves returned n s) next again g h = begins_refl _
turned_begins (running s) next again g h = begins_refl _
turned_begins (no_input s) next again g h = begins_refl _
turned_begins (undefined_at l k s) next again g h = begins_refl _

turned_passed : (f : ℕ → Outcome) (y : Outcome) (next next' again again' : Going) → Passing next next'
    → Growing again → Reached f y → Passed f y
    → ((n : ℕ) (s : State) → Passed (λ left. again left s) (again' n s))
    → Passed (λ left. turned (f left) next again) (turned y next' again')
turned_passed f (leaves on k s) next next' again again' q g e d h =
    chained (λ x. turned x next again) on s f (and_then (next' k s) again') e
    (then_passed (λ left. next left s) (next' k s) again again' g (q.reaching.reaches k s) (q.passing k s) h)
turned_passed f (leaves broken k s) next next' again again' q g e d h = tt
turned_passed f (leaves continued k s) next next' again again' q g e d h =
    chained (λ x. turned x next again) continued s f (and_then (next' k s) again') e
    (then_passed (λ left. next left s) (next' k s) again again' g (q.reaching.reaches k s) (q.passing k s) h)
turned_passed f (leaves returned k s) next next' again again' q g e d h = tt
turned_passed f (running s) next next' again again' q g e d h =
    kept (λ x. turned x next again) f s (λ x. turned_begins x next again q.reaching.short g) d
turned_passed f (no_input s) next next' again again' q g e d h = tt
turned_passed f (undefined_at l k s) next next' again again' q g e d h = tt

turn_passed : (body body' next next' again again' : Going) → Passing body body' → Passing next next' → Growing again
    → ((n : ℕ) (s : State) → Passed (λ left. again left s) (again' n s)) → (n : ℕ) (s : State)
    → Passed (λ left. turn counted body next again left s) (turn uncounted body' next' again' n s)
turn_passed body body' next next' again again' p q g h n s =
    step_passed s (λ left. turned (body left s) next again) (turned (body' n s) next' again')
    (turned_passed (λ left. body left s) (body' n s) next next' again again' q g (p.reaching.reaches n s)
    (p.passing n s) h)

module _ (test : Memory → Found) (l : ℕ) (body body' next next' : Going) (p : Passing body body')
    (q : Passing next next') where
  around_grows : Growing (around test l body next)
  around_grows left s =
      looped_grows counted (suc left) test l body next p.reaching.short q.reaching.short left s

  looped_passed : (t n : ℕ) (s : State)
      → Passed (λ left. around test l body next left s) (looped uncounted t test l body' next' n s)
  looped_passed zero n s = record { from = 0; puts = λ left le. (grown s left _ (around_grows left s)).0 }
  looped_passed (suc t) n s =
      same_passed (λ left. around test l body next left s)
      (λ left. given (test s.memory) l s
      (λ v. either (is_true v) (turn counted body next (around test l body next)) (leaves on) left s))
      (looped uncounted (suc t) test l body' next' n s)
      (λ left. around_is test l body next p.reaching.short q.reaching.short left s)
      (given_passed (test s.memory) l s
      (λ v left. either (is_true v) (turn counted body next (around test l body next)) (leaves on) left s)
      (λ v. either (is_true v) (turn uncounted body' next' (looped uncounted t test l body' next')) (leaves on) n s)
      (λ v. either_passed (is_true v) (turn counted body next (around test l body next)) (leaves on)
      (turn uncounted body' next' (looped uncounted t test l body' next')) (leaves on)
      (turn_passed body body' next next' (around test l body next) (looped uncounted t test l body' next') p q
      around_grows (looped_passed t)) (λ n s. tt) n s))

  first_passed : (first : Bool) (t n : ℕ) (s : State)
      → Passed (λ left. first_turn counted first body next (around test l body next) left s)
      (first_turn uncounted first body' next' (looped uncounted t test l body' next') n s)
  first_passed true t n s = looped_passed t n s
  first_passed false t n s =
      turn_passed body body' next next' (around test l body next) (looped uncounted t test l body' next') p q
      around_grows (looped_passed t) n s

  loop_passed : (first : Bool) (n : ℕ) (s : State)
      → Passed (λ left. first_turn counted first body next (looped counted (suc left) test l body next) left s)
      (first_turn uncounted first body' next' (looped uncounted (suc n) test l body' next') n s)
  loop_passed first n s =
      same_passed (λ left. first_turn counted first body next (looped counted (suc left) test l body next) left s)
      (λ left. first_turn counted first body next (around test l body next) left s)
      (first_turn uncounted first body' next' (looped uncounted (suc n) test l body' next') n s)
      (λ left. first_is test l body next p.reaching.short q.reaching.short first left s)
      (first_passed first (suc n) n s)

scope_passed : (bs : List ℕ) (f : ℕ → Outcome) (y : Outcome) → Passed f y
    → Passed (λ left. scope_left bs (f left)) (scope_left bs y)
scope_passed bs f (leaves w k s) d = tt
scope_passed bs f (running s) d = kept (scope_left bs) f s (scope_ends bs).puts d
scope_passed bs f (no_input s) d = tt
scope_passed bs f (undefined_at l k s) d = tt

arm_passed : (joint : List ℕ) (f : ℕ → Outcome) (y : Outcome) → Passed f y
    → Passed (λ left. arm_left joint (f left)) (arm_left joint y)
arm_passed joint f (leaves w k s) d = tt
arm_passed joint f (running s) d =
    let p = kept (arm_left joint) f s (arms_end joint).puts d in record { from = p.from; puts = p.puts }
arm_passed joint f (no_input s) d = tt
arm_passed joint f (undefined_at l k s) d = tt

chosen_passed : (t : Bool) (a b a' b' : Going) → ((n : ℕ) (s : State) → Passed (λ left. a left s) (a' n s))
    → ((n : ℕ) (s : State) → Passed (λ left. b left s) (b' n s)) → (n : ℕ) (s : State)
    → Passed (λ left. chosen t a b left s) (chosen t a' b' n s)
chosen_passed true a b a' b' p q n s = p n s
chosen_passed false a b a' b' p q n s = q n s

-- ---- calls

module _ (o : Order) (p : Program) where
  bound_passed : (bs : List (ℕ × Scalar)) (vs : List Value) (l : ℕ) (s : State) (f : State → ℕ → Outcome)
      (g : State → Outcome) → ((r : State) → Passed (f r) (g r))
      → Passed (λ left. bound o p bs vs l s (λ r. f r left)) (bound o p bs vs l s g)
  bound_passed [] vs l s f g h = h s
  bound_passed (b ∷ bs) [] l s f g h = h s
  bound_passed (b ∷ bs) (v ∷ vs) l s f g h =
      let r : State = remembers (stored o (model o p) s.memory b.1 b.0 0 v) s in
      unless_passed (store_fault (model o p) (size_at o p b.0) b.1 0) l s
      (λ left. bound o p bs vs l r (λ q. f q left)) (bound o p bs vs l r g) (bound_passed bs vs l r f g h)

  called_begins : (f : Function) (d : Option Dest) (l : ℕ) (x : Outcome)
      → Begins (state_in x).outputs (state_in (called o p f d l x)).outputs
  called_begins f d l (leaves w n s) =
      (grown (without (frame_of f) s) n _ (received_grows o p f.result d l n (without (frame_of f) s))).0
  called_begins f d l (running s) = begins_refl _
  called_begins f d l (no_input s) = begins_refl _
  called_begins f d l (undefined_at k x s) = begins_refl _

  called_passed : (fn : Function) (d : Option Dest) (l : ℕ) (f : ℕ → Outcome) (y : Outcome) → Passed f y
      → Passed (λ left. called o p fn d l (f left)) (called o p fn d l y)
  called_passed fn d l f (leaves w k s) e =
      never_stops (λ left. called o p fn d l (f left)) (received o p fn.result d l k (without (frame_of fn) s))
      (received_stops o p fn.result d l k (without (frame_of fn) s))
  called_passed fn d l f (running s) e = kept (called o p fn d l) f s (called_begins fn d l) e
  called_passed fn d l f (no_input s) e = tt
  called_passed fn d l f (undefined_at j k s) e = tt

  call_passed : (fn : Option Function) (body body' : Going) (es : List Expr) (d : Option Dest) (l : ℕ)
      → Passing body body' → (n : ℕ) (s : State)
      → Passed (λ left. call_of o p fn body es d l left s) (call_of o p fn body' es d l n s)
  call_passed None body body' es d l h n s = tt
  call_passed (Some fn) body body' es d l h n s =
      let r : State = without (first_of (option_to_list fn.result)) s in
      given_all_passed (values o p es r.memory) l r
      (λ vs left. bound o p fn.params vs l (without (frame_of fn) r) (λ q. called o p fn d l (body left q)))
      (λ vs. bound o p fn.params vs l (without (frame_of fn) r) (λ q. called o p fn d l (body' n q)))
      (λ vs. bound_passed fn.params vs l (without (frame_of fn) r) (λ q left. called o p fn d l (body left q))
      (λ q. called o p fn d l (body' n q))
      (λ q. called_passed fn d l (λ left. body left q) (body' n q) (h.passing n q)))

  -- ---- statements

  module _ (here : ℕ) (bs bs' : ℕ → Going) (known : (k : ℕ) → Passing (bs k) (bs' k)) where
    reaching : (ss : Stmts) → Reaching (exec_all o p counted here bs ss) (exec_all o p uncounted here bs' ss)
    reaching ss = record {
      short = all_grow o p counted here bs (λ k. (known k).reaching.short) ss;
      reaches = all_reached o p here bs bs' (λ k. (known k).reaching) ss;
    }

    passing_by : (ss : Stmts)
        → ((n : ℕ) (s : State)
        → Passed (λ left. exec_all o p counted here bs ss left s) (exec_all o p uncounted here bs' ss n s))
        → Passing (exec_all o p counted here bs ss) (exec_all o p uncounted here bs' ss)
    passing_by ss h = record { reaching = reaching ss; passing = h }

    mutual
      pub exec_passed : (w : What) (l n : ℕ) (s : State)
          → Passed (λ left. exec o p counted here bs w l left s) (exec o p uncounted here bs' w l n s)
      exec_passed (simple w) l n s =
          never_stops (λ left. exec o p counted here bs (simple w) l left s)
          (exec o p uncounted here bs' (simple w) l n s)
          (does_stops o p (result_in (slice_get p.functions here)) w l n s)
      exec_passed (call k es d) l n s =
          step_passed s (λ left. call_of o p (callee_of p here k) (bs k) es d l left s)
          (exec o p uncounted here bs' (call k es d) l n s)
          (call_passed (callee_of p here k) (bs k) (bs' k) es d l (known k) n s)
      exec_passed (if_else e a b) l n s =
          step_passed s
          (λ left. given (value o p e s.memory) l s
          (λ v. either (is_true v) (exec_all o p counted here bs a) (exec_all o p counted here bs b) left s))
          (exec o p uncounted here bs' (if_else e a b) l n s)
          (given_passed (value o p e s.memory) l s
          (λ v left. either (is_true v) (exec_all o p counted here bs a) (exec_all o p counted here bs b) left s)
          (λ v. either (is_true v) (exec_all o p uncounted here bs' a) (exec_all o p uncounted here bs' b) n s)
          (λ v. either_passed (is_true v) (exec_all o p counted here bs a) (exec_all o p counted here bs b)
          (exec_all o p uncounted here bs' a) (exec_all o p uncounted here bs' b) (all_passed a) (all_passed b) n s))
      exec_passed (loop first e a b) l n s =
          step_passed s
          (λ left. first_turn counted first (exec_all o p counted here bs a) (exec_all o p counted here bs b)
          (looped counted (suc left) (value o p e) l (exec_all o p counted here bs a) (exec_all o p counted here bs b))
          left s)
          (exec o p uncounted here bs' (loop first e a b) l n s)
          (loop_passed (value o p e) l (exec_all o p counted here bs a) (exec_all o p uncounted here bs' a)
          (exec_all o p counted here bs b) (exec_all o p uncounted here bs' b) (passing_by a (all_passed a))
          (passing_by b (all_passed b)) first n s)
      exec_passed break_loop l n s = tt
      exec_passed continue_loop l n s = tt
      exec_passed (by_order named a b) l n s =
          step_passed s
          (λ left. arm_left s.joint_tests
          (chosen (is_order o named) (exec_all o p counted here bs a) (exec_all o p counted here bs b) left s))
          (exec o p uncounted here bs' (by_order named a b) l n s)
          (arm_passed s.joint_tests
          (λ left. chosen (is_order o named) (exec_all o p counted here bs a) (exec_all o p counted here bs b) left s)
          (chosen (is_order o named) (exec_all o p uncounted here bs' a) (exec_all o p uncounted here bs' b) n s)
          (chosen_passed (is_order o named) (exec_all o p counted here bs a) (exec_all o p counted here bs b)
          (exec_all o p uncounted here bs' a) (exec_all o p uncounted here bs' b) (all_passed a) (all_passed b) n s))
      exec_passed (scope xs a) l n s =
          scope_passed xs (λ left. exec_all o p counted here bs a left (without xs s))
          (exec_all o p uncounted here bs' a n (without xs s)) (all_passed a n (without xs s))

      pub all_passed : (ss : Stmts) (n : ℕ) (s : State)
          → Passed (λ left. exec_all o p counted here bs ss left s) (exec_all o p uncounted here bs' ss n s)
      all_passed stop n s = tt
      all_passed (more l w rest) n s =
          then_passed (λ left. exec o p counted here bs w l left s) (exec o p uncounted here bs' w l n s)
          (exec_all o p counted here bs rest) (exec_all o p uncounted here bs' rest)
          (all_grow o p counted here bs (λ k. (known k).reaching.short) rest)
          (exec_reached o p here bs bs' (λ k. (known k).reaching) w l n s) (exec_passed w l n s) (all_passed rest)

  pub body_passing : (f : Option Function) (here : ℕ) (bs bs' : ℕ → Going) → ((k : ℕ) → Passing (bs k) (bs' k))
      → Passing (body_of o p counted f here bs) (body_of o p uncounted f here bs')
  body_passing None here bs bs' known = record {
    reaching = body_reaching o p None here bs bs' (λ k. (known k).reaching);
    passing = λ n s. tt;
  }
  body_passing (Some f) here bs bs' known = record {
    reaching = body_reaching o p (Some f) here bs bs' (λ k. (known k).reaching);
    passing = all_passed here bs bs' known f.body;
  }

  chosen_passing : (t : Bool) (a b a' b' : Going) → Passing a a' → Passing b b'
      → Passing (chosen t a b) (chosen t a' b')
  chosen_passing true a b a' b' g h = g
  chosen_passing false a b a' b' g h = h

  pub bodies_passing : (m k : ℕ) → Passing (bodies o p counted m k) (bodies o p uncounted m k)
  bodies_passing zero k = record { reaching = bodies_reaching o p zero k; passing = λ n s. tt }
  bodies_passing (suc m) k =
      chosen_passing (nat_eq k m) _ _ _ _
      (body_passing (slice_get p.functions m) m (bodies o p counted m) (bodies o p uncounted m) (bodies_passing m))
      (bodies_passing m k)
