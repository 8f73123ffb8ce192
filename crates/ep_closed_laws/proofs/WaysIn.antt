-- Statements whose loops make at most so many turns are left by no other way than their text has.
use Rattle.std.proofs.Common.{◌≡◌, ℕ, zero, suc, List, ◌++◌, refl, sym, subst, Option, Some, None, Bool, true, false}
use Rattle.ep_core.proofs.WaysTaken.{has_left, has_right, then_among, widened}
use Rattle.std.proofs.Common.{◌&&◌, nat_eq, slice_get}
use Rattle.std.proofs.lemmas.Bool.{and_parts}
use Rattle.ep_int.specs.declared.types.Order.{Order}
use Rattle.ep_int.specs.Memory.{Memory, Value, Found, has, faults}
use Rattle.ep_core.specs.Program.{What, simple, call, if_else, loop, break_loop, continue_loop, by_order, scope}
use Rattle.ep_core.specs.Program.{Stmts, stop, more, Function, Program}
use Rattle.ep_core.specs.Exec.{State, on, broken, continued, returned, Outcome, leaves, running, no_input}
use Rattle.ep_core.specs.Exec.{undefined_at, Going, given, uncounted, and_then, is_true, code_of_test, listed, either}
use Rattle.ep_core.specs.Exec.{scope_left, is_order, chosen, arm_left, frame_of, without, value}
use Rattle.ep_core.specs.Ways.{Ways, either_way, ways_of, ways_of_all}
use Rattle.ep_core.specs.Laws.{IsAmong}
use Rattle.ep_core.specs.WellFormed.{is_tested, result_type, are_plain, what_fits, stmts_fit, is_well_formed}
use Rattle.ep_core.proofs.WaysTaken.{exec_among, all_plain_ways}
use Rattle.ep_core.proofs.Operands.{fits_at}
use Rattle.ep_closed_laws.specs.Bounded.{turns_from, visit, exec_in, all_in, body_in, bodies_in}
use Rattle.ep_pass.proofs.Outcomes.{body_end, with_next, loop_left}
use Rattle.ep_pass.proofs.Outcomes.{IsPlain, plain_end, IsCall}
use Rattle.ep_pass.proofs.Text.{Stays, all_stay}

scope_among : (a : Ways) (bs : List ℕ) (c : Outcome) → IsAmong a c → IsAmong a (scope_left bs c)
scope_among a bs (leaves k n s) h = h
scope_among a bs (running s) h = h
scope_among a bs (no_input s) h = h
scope_among a bs (undefined_at l k s) h = h

arm_among : (a : Ways) (j : List ℕ) (c : Outcome) → IsAmong a c → IsAmong a (arm_left j c)
arm_among a j (leaves k n s) h = h
arm_among a j (running s) h = h
arm_among a j (no_input s) h = h
arm_among a j (undefined_at l k s) h = h

given_among : (a : Ways) (v : Found) (l : ℕ) (s : State) (go : Value → Outcome) → ((v : Value) → IsAmong a (go v))
    → IsAmong a (given v l s go)
given_among a (has v) l s go h = h v
given_among a (faults k) l s go h = tt

either_among : (a : Ways) (t : Bool) (f g : Going) → ((n : ℕ) (s : State) → IsAmong a (f n s))
    → ((n : ℕ) (s : State) → IsAmong a (g n s)) → (n : ℕ) (s : State) → IsAmong a (either t f g n s)
either_among a true f g h i n s = h n (listed (code_of_test true) s)
either_among a false f g h i n s = i n (listed (code_of_test false) s)

chosen_in : (t : Bool) (ws : Ways) (f g : Going) → ((n : ℕ) (s : State) → IsAmong ws (f n s))
    → ((n : ℕ) (s : State) → IsAmong ws (g n s)) → (n : ℕ) (s : State) → IsAmong ws (chosen t f g n s)
chosen_in true ws f g h i n s = h n s
chosen_in false ws f g h i n s = i n s

-- ---- loops

-- a turn, and the turns of a visit, where they may return
abbrev pub IsTurnOf : Bool → Outcome → Type 0
IsTurnOf r (leaves on n s) = Unit {0}
IsTurnOf r (leaves broken n s) = Unit {0}
IsTurnOf r (leaves continued n s) = ⊥
IsTurnOf r (leaves returned n s) = r ≡ true
IsTurnOf r (running s) = Unit {0}
IsTurnOf r (no_input s) = Unit {0}
IsTurnOf r (undefined_at l k s) = Unit {0}

abbrev pub IsVisitOf : Bool → Outcome → Type 0
IsVisitOf r (leaves on n s) = ⊥
IsVisitOf r (leaves broken n s) = Unit {0}
IsVisitOf r (leaves continued n s) = ⊥
IsVisitOf r (leaves returned n s) = r ≡ true
IsVisitOf r (running s) = Unit {0}
IsVisitOf r (no_input s) = Unit {0}
IsVisitOf r (undefined_at l k s) = Unit {0}

plain_turn : (r : Bool) (c : Outcome) → IsPlain c → IsTurnOf r c
plain_turn r (leaves on n s) h = tt
plain_turn r (leaves broken n s) h = absurd h
plain_turn r (leaves continued n s) h = absurd h
plain_turn r (leaves returned n s) h = absurd h
plain_turn r (running s) h = tt
plain_turn r (no_input s) h = tt
plain_turn r (undefined_at l k s) h = tt

pub body_turn : (a : Ways) (c : Outcome) (next : Going) → IsAmong a c → ((n : ℕ) (s : State) → IsPlain (next n s))
    → IsTurnOf a.by_return (and_then (body_end c) next)
body_turn a (leaves on n s) next h i = plain_turn a.by_return (next n s) (i n s)
body_turn a (leaves broken n s) next h i = tt
body_turn a (leaves continued n s) next h i = plain_turn a.by_return (next n s) (i n s)
body_turn a (leaves returned n s) next h i = h
body_turn a (running s) next h i = tt
body_turn a (no_input s) next h i = tt
body_turn a (undefined_at l k s) next h i = tt

turn_visit : (r : Bool) (c : Outcome) (f : Going) → IsTurnOf r c → ((n : ℕ) (s : State) → IsVisitOf r (f n s))
    → IsVisitOf r (and_then c f)
turn_visit r (leaves on n s) f h i = i n s
turn_visit r (leaves broken n s) f h i = tt
turn_visit r (leaves continued n s) f h i = absurd h
turn_visit r (leaves returned n s) f h i = h
turn_visit r (running s) f h i = tt
turn_visit r (no_input s) f h i = tt
turn_visit r (undefined_at l k s) f h i = tt

module _ (test : Memory → Found) (l : ℕ) (turn : Going) (r : Bool) (is : (n : ℕ) (s : State) → IsTurnOf r
    (turn n s)) where
  tests_visit : (v : Found) (f : Going) → ((n : ℕ) (s : State) → IsVisitOf r (f n s)) → (n : ℕ) (s : State)
      → IsVisitOf r (given v l s (λ v. either (is_true v) f (leaves broken) n s))
  tests_visit (faults k) f h n s = tt
  tests_visit (has v) f h n s = by_truth (is_true v)
    where
      by_truth : (t : Bool) → IsVisitOf r (either t f (leaves broken) n s)
      by_truth true = h n (listed (code_of_test true) s)
      by_truth false = tt

  turns_visit : (k n : ℕ) (s : State) → IsVisitOf r (turns_from test l turn k n s)
  turns_visit zero n s = tt
  turns_visit (suc k) n s =
      turn_visit r (turn n s) _ (is n s)
      (λ n s. tests_visit (test s.memory) (turns_from test l turn k) (turns_visit k) n s)

  pub visit_is : (first : Bool) (k n : ℕ) (s : State) → IsVisitOf r (visit test l turn first k n s)
  visit_is true k n s = tests_visit (test s.memory) (turns_from test l turn k) (turns_visit k) n s
  visit_is false k n s = turns_visit k n s

visit_among : (a : Ways) (c : Outcome) → IsVisitOf a.by_return c → (e : Ways) → e.at_end ≡ true
    → e.by_return ≡ a.by_return → IsAmong e (loop_left c)
visit_among a (leaves on n s) h e i j = absurd h
visit_among a (leaves broken n s) h e i j = i
visit_among a (leaves continued n s) h e i j = absurd h
visit_among a (leaves returned n s) h e i j = subst (λ t. t ≡ true) (sym j) h
visit_among a (running s) h e i j = tt
visit_among a (no_input s) h e i j = tt
visit_among a (undefined_at l k s) h e i j = tt

-- what is left neither by break nor by continue is over as a call is
call_end : (ws : Ways) (x : Outcome) → Stays ws → IsAmong ws x → IsCall x
call_end ws (leaves on n s) h i = tt
call_end ws (leaves broken n s) h i = let e = h.0 in absurd cc
call_end ws (leaves continued n s) h i = let e = h.1 in absurd cc
call_end ws (leaves returned n s) h i = tt
call_end ws (running s) h i = tt
call_end ws (no_input s) h i = tt
call_end ws (undefined_at l k s) h i = tt

-- ---- statements

module _ (o : Order) (p : Program) (u : ℕ) where
  module _ (here : ℕ) (bs : ℕ → Going) (own : Option ℕ) where
    mutual
      pub among_in : (w : What) (l : ℕ) (seen : List ℕ) (i : Bool) → what_fits p here own w seen i ≡ true
          → (n : ℕ) (s : State) → IsAmong (ways_of w) (exec_in o p u here bs w l n s)
      among_in (simple w) l seen i h n s = exec_among o p uncounted here bs own (simple w) l seen i h n s
      among_in (call k es d) l seen i h n s = exec_among o p uncounted here bs own (call k es d) l seen i h n s
      among_in (if_else e a b) l seen i h n s =
          let q = and_parts (is_tested p.types p.blocks seen e && stmts_fit p here own a seen i)
          (stmts_fit p here own b seen i) h in
          let r = and_parts (is_tested p.types p.blocks seen e) (stmts_fit p here own a seen i) q.0 in
          let ws = either_way (ways_of_all a) (ways_of_all b) in
          given_among ws (value o p e s.memory) l s _
          (λ v. either_among ws (is_true v) (all_in o p u here bs a) (all_in o p u here bs b)
          (λ n s. widened (ways_of_all a) ws (has_left (ways_of_all a) (ways_of_all b))
          (all_in o p u here bs a n s)
          (all_among_in a seen i r.1 n s))
          (λ n s. widened (ways_of_all b) ws (has_right (ways_of_all a) (ways_of_all b))
          (all_in o p u here bs b n s)
          (all_among_in b seen i q.1 n s)) n s)
      among_in (loop first e a b) l seen i h n s =
          let q = and_parts (is_tested p.types p.blocks seen e && stmts_fit p here own a seen true)
          (are_plain b && stmts_fit p here own b seen i) h in
          let r = and_parts (is_tested p.types p.blocks seen e) (stmts_fit p here own a seen true) q.0 in
          let y = and_parts (are_plain b) (stmts_fit p here own b seen i) q.1 in
          let turn = with_next (all_in o p u here bs a) (all_in o p u here bs b) in
          visit_among (ways_of_all a) (visit (value o p e) l turn first u n s)
          (visit_is (value o p e) l turn (ways_of_all a).by_return
          (λ n s. body_turn (ways_of_all a) (all_in o p u here bs a n s) (all_in o p u here bs b)
          (all_among_in a seen true r.1 n s)
          (λ n s. plain_end (all_in o p u here bs b n s)
          (subst (λ ws. IsAmong ws (all_in o p u here bs b n s)) (all_plain_ways b y.0)
          (all_among_in b seen i y.1 n s)))) first u n s) (ways_of (loop first e a b)) refl refl
      among_in break_loop l seen i h n s = refl
      among_in continue_loop l seen i h n s = refl
      among_in (by_order named a b) l seen i h n s =
          let q = and_parts (stmts_fit p here own a seen i) (stmts_fit p here own b seen i) h in
          let ws = either_way (ways_of_all a) (ways_of_all b) in
          arm_among ws s.joint_tests _
          (chosen_in (is_order o named) ws (all_in o p u here bs a) (all_in o p u here bs b)
          (λ n s. widened (ways_of_all a) ws (has_left (ways_of_all a) (ways_of_all b))
          (all_in o p u here bs a n s)
          (all_among_in a seen i q.0 n s))
          (λ n s. widened (ways_of_all b) ws (has_right (ways_of_all a) (ways_of_all b))
          (all_in o p u here bs b n s)
          (all_among_in b seen i q.1 n s)) n s)
      among_in (scope bs' a) l seen i h n s =
          scope_among (ways_of_all a) bs' (all_in o p u here bs a n (without bs' s))
          (all_among_in a (bs' ++ seen) i h n (without bs' s))

      pub all_among_in : (ss : Stmts) (seen : List ℕ) (i : Bool) → stmts_fit p here own ss seen i ≡ true
          → (n : ℕ) (s : State) → IsAmong (ways_of_all ss) (all_in o p u here bs ss n s)
      all_among_in stop seen i h n s = refl
      all_among_in (more l w rest) seen i h n s =
          let q = and_parts (what_fits p here own w seen i) (stmts_fit p here own rest seen i) h in
          then_among (ways_of w) (ways_of_all rest) (exec_in o p u here bs w l n s) (all_in o p u here bs rest)
          (among_in w l seen i q.0 n s) (all_among_in rest seen i q.1)

    pub plain_in : (ss : Stmts) (seen : List ℕ) (i : Bool) → are_plain ss ≡ true
        → stmts_fit p here own ss seen i ≡ true
        → (n : ℕ) (s : State) → IsPlain (all_in o p u here bs ss n s)
    plain_in ss seen i h f n s =
        plain_end (all_in o p u here bs ss n s)
        (subst (λ ws. IsAmong ws (all_in o p u here bs ss n s)) (all_plain_ways ss h) (all_among_in ss seen i f n s))

  module _ (formed : is_well_formed p ≡ true) where
    pub body_call_in : (f : Option Function) (here : ℕ) (bs : ℕ → Going) → slice_get p.functions here ≡ f → (n : ℕ)
        (s : State) → IsCall (body_in o p u f here bs n s)
    body_call_in None here bs e n s = tt
    body_call_in (Some f) here bs e n s =
        let own = result_type p.blocks f.result in
        let fits = (fits_at p formed here f e).2 in
        call_end (ways_of_all f.body) (all_in o p u here bs f.body n s)
        (all_stay p here own f.body (frame_of f) fits) (all_among_in here bs own f.body (frame_of f) false fits n s)

    chosen_call_in : (t : Bool) (f g : Going) → ((n : ℕ) (s : State) → IsCall (f n s))
        → ((n : ℕ) (s : State) → IsCall (g n s)) → (n : ℕ) (s : State) → IsCall (chosen t f g n s)
    chosen_call_in true f g h i = h
    chosen_call_in false f g h i = i

    pub bodies_call_in : (m k n : ℕ) (s : State) → IsCall (bodies_in o p u m k n s)
    bodies_call_in zero k n s = tt
    bodies_call_in (suc m) k n s =
        chosen_call_in (nat_eq k m) (body_in o p u (slice_get p.functions m) m (bodies_in o p u m))
        (bodies_in o p u m k)
        (body_call_in (slice_get p.functions m) m (bodies_in o p u m) refl) (bodies_call_in m k) n s
