-- Passes of one side follow its machine's run exactly: they have no fault, and one way out alone.
use Rattle.std.proofs.Common.{◌≡◌, ℕ, zero, suc, List, [], ◌∷◌, ◌++◌, refl, sym, subst, ap, ◌∙◌, Option, Some, None}
use Rattle.ep_core.proofs.Operands.{callee_at}
use Rattle.std.proofs.Common.{◌≤◌, Bool, true, false, ◌&&◌, ◌||◌, nat_eq, slice_get, arith}
use Rattle.std.proofs.lemmas.Bool.{eqb-true, and_parts}
use Rattle.ep_int.specs.declared.types.Order.{Order}
use Rattle.ep_int.specs.Memory.{Memory, Found, has, faults}
use Rattle.ep_core.specs.Program.{Expr, Dest, What, simple, call, if_else, loop, break_loop, continue_loop, by_order}
use Rattle.ep_core.specs.Program.{scope, Stmts, stop, more, Function, Program}
use Rattle.ep_core.specs.Exec.{State, Way, on, broken, continued, returned, Outcome, leaves, running, no_input}
use Rattle.ep_core.specs.Exec.{undefined_at, Going, given, uncounted, and_then, is_true, code_of_way, code_of_test}
use Rattle.ep_core.specs.Exec.{listed, either, scope_left, is_order, chosen, arm_left, frame_of, result_in, callee_of}
use Rattle.ep_core.specs.Exec.{without, value, does, received, call_of}
use Rattle.ep_core.specs.Runs.{Side, left, right}
use Rattle.ep_core.specs.Ways.{ways_of_all}
use Rattle.ep_core.specs.WellFormed.{is_tested, result_type, arguments_fit, takes_result, call_fits, are_plain}
use Rattle.ep_core.specs.WellFormed.{what_fits, stmts_fit, is_well_formed}
use Rattle.ep_core.proofs.Operands.{fits_at}
use Rattle.ep_pass.specs.States.{Mode, One, Transfer, Verdict, stuck, same, differs, StateOps}
use Rattle.ep_pass.specs.Laws.{passes, IsTruth, GoesOn}
use Rattle.ep_pass.specs.Pass.{Ways, none, Log, logged, Pass, passed, after, ends, branch, found_at, left_by, jumps}
use Rattle.ep_pass.specs.Pass.{Event, Heads, past, agreed}
use Rattle.ep_pass.specs.Pass.{way_of, simple_pass, too_long, then_pass, rowed, either_pass, leave_call, scope_pass}
use Rattle.ep_pass.specs.Pass.{call_pass, next_pass, body_ends, leave_loop, decided, tested, apart, arm_of, last_pass}
use Rattle.ep_pass.specs.Pass.{turn_then, unrolled, in_body, one_turn, cut_turn, one_rounds, entered, loop_pass, pass}
use Rattle.ep_pass.specs.Pass.{pass_all, body_pass, bodies_pass}
use Rattle.ep_kinds.specs.InOut.{is_talk, comes_to, some_comes_to, body_comes_to, answer_if, bodies_come_to}
use Rattle.ep_closed_laws.specs.Bounded.{turns_from, tests_from, visit, exec_in, all_in, body_in, bodies_in}
use Rattle.ep_pass.proofs.Outcomes.{body_end, with_next, loop_left}
use Rattle.ep_closed_laws.specs.Exactly.{IsThere, IfLeft, TransferIsExact, SeenFrom, retold, Exactly}
use Rattle.ep_pass.proofs.Outcomes.{IsPlain, IsCall, run_called, called_end, call_is, scope_call}
use Rattle.ep_closed_laws.proofs.WaysIn.{IsTurnOf, IsVisitOf, body_turn, visit_is, all_among_in, plain_in}
use Rattle.ep_closed_laws.proofs.WaysIn.{bodies_call_in}

-- ---- passes with one way out

-- One way out is reached, in a state of which this holds, and there is no fault.
pub record Leaves {S : Type 0} (P : S → Type 0) (k : Way) (p : Pass S) : Type 0 where
  pub in_state : S
  pub log : Log S
  pub is : p ≡ left_by k (Some in_state) log
  pub quiet : log.faults ≡ []
  pub good : P in_state

abbrev pub IsJump : Way → Type 0
IsJump on = ⊥
IsJump broken = Unit {0}
IsJump continued = Unit {0}
IsJump returned = Unit {0}

-- how the turns of a loop are left
abbrev pub IsTurnLeft : Outcome → Type 0
IsTurnLeft (leaves on n s) = ⊥
IsTurnLeft (leaves broken n s) = Unit {0}
IsTurnLeft (leaves continued n s) = ⊥
IsTurnLeft (leaves returned n s) = Unit {0}
IsTurnLeft (running s) = Unit {0}
IsTurnLeft (no_input s) = Unit {0}
IsTurnLeft (undefined_at l k s) = Unit {0}

module _ {S : Type 0} (o : StateOps S) where
  pub as_left : (P : S → Type 0) (k : Way) (s : S) (g : Log S) → g.faults ≡ [] → P s → Leaves P k (left_by k
      (Some s) g)
  as_left P k s g e h = record { in_state = s; log = g; is = refl; quiet = e; good = h }

  same_pass : (P : S → Type 0) (k : Way) (p q : Pass S) → p ≡ q → Leaves P k q → Leaves P k p
  same_pass P k p q e h = subst (Leaves P k) (sym e) h

  pub more_left : (P Q : S → Type 0) (k : Way) (p : Pass S) → ((s : S) → P s → Q s) → Leaves P k p → Leaves Q k p
  more_left P Q k p f h = record {
    in_state = h.in_state;
    log = h.log;
    is = h.is;
    quiet = h.quiet;
    good = f h.in_state h.good;
  }

  no_faults : (fs gs : List Event) → fs ≡ [] → gs ≡ [] → fs ++ gs ≡ []
  no_faults fs gs refl' e = ap (λ h. h ++ gs) refl' ∙ e

  pub after_left : (P : S → Type 0) (k : Way) (g : Log S) → g.faults ≡ [] → (p : Pass S) → Leaves P k p
      → Leaves P k (after g p)
  after_left P k g e p h =
      same_pass P k (after g p) (after g (left_by k (Some h.in_state) h.log)) (ap (after g) h.is) (by_way k)
    where
      by_way : (k : Way) → Leaves P k (after g (left_by k (Some h.in_state) h.log))
      by_way on = as_left P on h.in_state _ (no_faults g.faults h.log.faults e h.quiet) h.good
      by_way broken = as_left P broken h.in_state _ (no_faults g.faults h.log.faults e h.quiet) h.good
      by_way continued = as_left P continued h.in_state _ (no_faults g.faults h.log.faults e h.quiet) h.good
      by_way returned = as_left P returned h.in_state _ (no_faults g.faults h.log.faults e h.quiet) h.good

  -- a map of passes that keeps the way of one that is left so
  pub mapped : (P : S → Type 0) (k j : Way) (f : Pass S → Pass S)
      → ((s : S) (g : Log S) → g.faults ≡ [] → P s → Leaves P j (f (left_by k (Some s) g))) → (p : Pass S)
      → Leaves P k p → Leaves P j (f p)
  mapped P k j f h p i =
      same_pass P j (f p) (f (left_by k (Some i.in_state) i.log)) (ap f i.is) (h i.in_state i.log i.quiet i.good)

  -- the same where another holds after it
  pub turned_into : (P R : S → Type 0) (k j : Way) (f : Pass S → Pass S)
      → ((s : S) (g : Log S) → g.faults ≡ [] → P s → Leaves R j (f (left_by k (Some s) g))) → (p : Pass S)
      → Leaves P k p → Leaves R j (f p)
  turned_into P R k j f h p i =
      same_pass R j (f p) (f (left_by k (Some i.in_state) i.log)) (ap f i.is) (h i.in_state i.log i.quiet i.good)

  pub then_on : (P Q : S → Type 0) (k : Way) (p : Pass S) (go : S → Ways S → Pass S) → Leaves P on p
      → ((s : S) → P s → Leaves Q k (go s none)) → Leaves Q k (then_pass o p none go)
  then_on P Q k p go h f =
      same_pass Q k (then_pass o p none go) (then_pass o (left_by on (Some h.in_state) h.log) none go)
      (ap (λ p. then_pass o p none go) h.is)
      (after_left Q k h.log h.quiet (go h.in_state none) (f h.in_state h.good))

  pub then_jump : (P : S → Type 0) (k : Way) → IsJump k → (p : Pass S) (go : S → Ways S → Pass S) → Leaves P k p
      → Leaves P k (then_pass o p none go)
  then_jump P on j p go h = absurd j
  then_jump P broken j p go h =
      mapped P broken broken (λ p. then_pass o p none go) (λ s g e i. as_left P broken s g e i) p h
  then_jump P continued j p go h =
      mapped P continued continued (λ p. then_pass o p none go) (λ s g e i. as_left P continued s g e i) p h
  then_jump P returned j p go h =
      mapped P returned returned (λ p. then_pass o p none go) (λ s g e i. as_left P returned s g e i) p h

  -- a turn, with what follows
  pub turn_on : (P Q : S → Type 0) (k : Way) (p : Pass S) (go : S → Ways S → Pass S) → Leaves P on p
      → ((s : S) → P s → Leaves Q k (go s none)) → Leaves Q k (turn_then o p go)
  turn_on P Q k p go h f =
      same_pass Q k (turn_then o p go) (turn_then o (left_by on (Some h.in_state) h.log) go)
      (ap (λ p. turn_then o p go) h.is)
      (after_left Q k h.log h.quiet (go h.in_state none) (f h.in_state h.good))

  pub turn_jump : (P : S → Type 0) (k : Way) → IsJump k → (p : Pass S) (go : S → Ways S → Pass S) → Leaves P k p
      → Leaves P k (turn_then o p go)
  turn_jump P on j p go h = absurd j
  turn_jump P broken j p go h =
      mapped P broken broken (λ p. turn_then o p go) (λ s g e i. as_left P broken s g e i) p h
  turn_jump P continued j p go h =
      mapped P continued continued (λ p. turn_then o p go) (λ s g e i. as_left P continued s g e i) p h
  turn_jump P returned j p go h =
      mapped P returned returned (λ p. turn_then o p go) (λ s g e i. as_left P returned s g e i) p h

  pub rowed_on : (P : S → Type 0) (go : S → Pass S) (s : S) → Leaves P on (go s) → Leaves P on (rowed o go s none)
  rowed_on P go s h =
      mapped P on on (λ (q : Pass S). passed q.on none q.log) (λ s g e i. as_left P on s g e i) (go s) h

  -- beside nothing
  pub either_before : (P : S → Type 0) (k : Way) (p : Pass S) → Leaves P k p → Leaves P k (either_pass o (ends []) p)
  either_before P k p h = mapped P k k (either_pass o (ends [])) (λ s g e i. by_way k s g e i) p h
    where
      by_way : (k : Way) (s : S) (g : Log S) → g.faults ≡ [] → P s
          → Leaves P k (either_pass o (ends []) (left_by k (Some s) g))
      by_way on s g e i = as_left P on s _ e i
      by_way broken s g e i = as_left P broken s _ e i
      by_way continued s g e i = as_left P continued s _ e i
      by_way returned s g e i = as_left P returned s _ e i

  pub either_after : (P : S → Type 0) (k : Way) (p : Pass S) → Leaves P k p → Leaves P k (either_pass o p (ends []))
  either_after P k p h = mapped P k k (λ p. either_pass o p (ends [])) (λ s g e i. by_way k s g e i) p h
    where
      by_way : (k : Way) (s : S) (g : Log S) → g.faults ≡ [] → P s
          → Leaves P k (either_pass o (left_by k (Some s) g) (ends []))
      by_way on s g e i = as_left P on s _ (no_faults g.faults [] e refl) i
      by_way broken s g e i = as_left P broken s _ (no_faults g.faults [] e refl) i
      by_way continued s g e i = as_left P continued s _ (no_faults g.faults [] e refl) i
      by_way returned s g e i = as_left P returned s _ (no_faults g.faults [] e refl) i

  pub branch_left : (P Q : S → Type 0) (k : Way) (u : Option S) (go : S → Pass S) → IsThere P u
      → ((s : S) → P s → Leaves Q k (go s)) → Leaves Q k (branch u go)
  branch_left P Q k None go h f = absurd h
  branch_left P Q k (Some s) go h f = f s h

  pub simple_left : (P : S → Type 0) (k : Way) (l : ℕ) (g : Transfer S) → TransferIsExact P g → Leaves P k (simple_pass k l g)
  simple_left P k l g h = by_next g.next h.next
    where
      quiet : found_at l g.faults ≡ []
      quiet = ap (found_at l) h.faults

      by_next : (v : Option S) → IsThere P v → Leaves P k (left_by k v (logged (found_at l g.faults) 0 []))
      by_next None i = absurd i
      by_next (Some s) i = as_left P k s _ quiet i

  -- ---- one side's pass beside its machine's outcome; where that is stopped, nothing is said

  module _ (K : S → State → State → Type 0) (m : Side) where
    abbrev pub AloneOf : Pass S → State → Outcome → Type 0
    AloneOf p y (leaves k n x) = Leaves (λ s. SeenFrom K m s x y) k p
    AloneOf p y (running x) = Unit {0}
    AloneOf p y (no_input x) = Unit {0}
    AloneOf p y (undefined_at l k x) = Unit {0}

    pub then_alone : (p : Pass S) (y : State) (c : Outcome) (go : S → Ways S → Pass S) (f : Going) → AloneOf p y c
        → ((n : ℕ) (s : S) (x : State) → SeenFrom K m s x y → AloneOf (go s none) y (f n x))
        → AloneOf (then_pass o p none go) y (and_then c f)
    then_alone p y (leaves on n x) go f h i = by_outcome (f n x) (λ s g. i n s x g)
      where
        by_outcome : (c : Outcome) → ((s : S) → SeenFrom K m s x y → AloneOf (go s none) y c)
            → AloneOf (then_pass o p none go) y c
        by_outcome (leaves k n x') j =
            then_on (λ s. SeenFrom K m s x y) (λ s. SeenFrom K m s x' y) k p go h j
        by_outcome (running x) j = tt
        by_outcome (no_input x) j = tt
        by_outcome (undefined_at l k x) j = tt
    then_alone p y (leaves broken n x) go f h i = then_jump (λ s. SeenFrom K m s x y) broken tt p go h
    then_alone p y (leaves continued n x) go f h i = then_jump (λ s. SeenFrom K m s x y) continued tt p go h
    then_alone p y (leaves returned n x) go f h i = then_jump (λ s. SeenFrom K m s x y) returned tt p go h
    then_alone p y (running x) go f h i = tt
    then_alone p y (no_input x) go f h i = tt
    then_alone p y (undefined_at l k x) go f h i = tt

    turn_alone : (p : Pass S) (y : State) (c : Outcome) (go : S → Ways S → Pass S) (f : Going) → AloneOf p y c
        → ((n : ℕ) (s : S) (x : State) → SeenFrom K m s x y → AloneOf (go s none) y (f n x))
        → AloneOf (turn_then o p go) y (and_then c f)
    turn_alone p y (leaves on n x) go f h i = by_outcome (f n x) (λ s g. i n s x g)
      where
        by_outcome : (c : Outcome) → ((s : S) → SeenFrom K m s x y → AloneOf (go s none) y c)
            → AloneOf (turn_then o p go) y c
        by_outcome (leaves k n x') j =
            turn_on (λ s. SeenFrom K m s x y) (λ s. SeenFrom K m s x' y) k p go h j
        by_outcome (running x) j = tt
        by_outcome (no_input x) j = tt
        by_outcome (undefined_at l k x) j = tt
    turn_alone p y (leaves broken n x) go f h i = turn_jump (λ s. SeenFrom K m s x y) broken tt p go h
    turn_alone p y (leaves continued n x) go f h i = turn_jump (λ s. SeenFrom K m s x y) continued tt p go h
    turn_alone p y (leaves returned n x) go f h i = turn_jump (λ s. SeenFrom K m s x y) returned tt p go h
    turn_alone p y (running x) go f h i = tt
    turn_alone p y (no_input x) go f h i = tt
    turn_alone p y (undefined_at l k x) go f h i = tt

    -- what is left at its end alone is one statement of a row
    pub rowed_alone : (go : S → Pass S) (s : S) (y : State) (c : Outcome) → IsPlain c → AloneOf (go s) y c
        → AloneOf (rowed o go s none) y c
    rowed_alone go s y (leaves on n x) z h = rowed_on (λ s. SeenFrom K m s x y) go s h
    rowed_alone go s y (leaves broken n x) z h = absurd z
    rowed_alone go s y (leaves continued n x) z h = absurd z
    rowed_alone go s y (leaves returned n x) z h = absurd z
    rowed_alone go s y (running x) z h = tt
    rowed_alone go s y (no_input x) z h = tt
    rowed_alone go s y (undefined_at l k x) z h = tt

    -- a map of passes beside one of outcomes
    pub body_ends_alone : (p : Pass S) (y : State) (c : Outcome) → AloneOf p y c → AloneOf (body_ends o p) y
        (body_end c)
    body_ends_alone p y (leaves on n x) h =
        mapped (λ s. SeenFrom K m s x y) on on (body_ends o) (λ s g e i. as_left (λ s. SeenFrom K m s x y) on s g e i)
        p h
    body_ends_alone p y (leaves broken n x) h =
        mapped (λ s. SeenFrom K m s x y) broken broken (body_ends o)
        (λ s g e i. as_left (λ s. SeenFrom K m s x y) broken s g e i) p h
    body_ends_alone p y (leaves continued n x) h =
        mapped (λ s. SeenFrom K m s x y) continued on (body_ends o)
        (λ s g e i. as_left (λ s. SeenFrom K m s x y) on s g e i) p h
    body_ends_alone p y (leaves returned n x) h =
        mapped (λ s. SeenFrom K m s x y) returned returned (body_ends o)
        (λ s g e i. as_left (λ s. SeenFrom K m s x y) returned s g e i) p h
    body_ends_alone p y (running x) h = tt
    body_ends_alone p y (no_input x) h = tt
    body_ends_alone p y (undefined_at l k x) h = tt

    loop_left_alone : (p : Pass S) (y : State) (c : Outcome) → IsTurnLeft c → AloneOf p y c
        → AloneOf (leave_loop p) y (loop_left c)
    loop_left_alone p y (leaves on n x) z h = absurd z
    loop_left_alone p y (leaves broken n x) z h =
        mapped (λ s. SeenFrom K m s x y) broken on leave_loop
        (λ s g e i. as_left (λ s. SeenFrom K m s x y) on s g e i) p h
    loop_left_alone p y (leaves continued n x) z h = absurd z
    loop_left_alone p y (leaves returned n x) z h =
        mapped (λ s. SeenFrom K m s x y) returned returned leave_loop
        (λ s g e i. as_left (λ s. SeenFrom K m s x y) returned s g e i) p h
    loop_left_alone p y (running x) z h = tt
    loop_left_alone p y (no_input x) z h = tt
    loop_left_alone p y (undefined_at l k x) z h = tt

    -- ---- one by one

    after_alone : (g : Log S) → g.faults ≡ [] → (p : Pass S) (y : State) (c : Outcome) → AloneOf p y c
        → AloneOf (after g p) y c
    after_alone g e p y (leaves k n x) h = after_left (λ s. SeenFrom K m s x y) k g e p h
    after_alone g e p y (running x) h = tt
    after_alone g e p y (no_input x) h = tt
    after_alone g e p y (undefined_at l k x) h = tt

    last_alone : (p : Pass S) (y : State) (c : Outcome) → IsTurnLeft c → AloneOf p y c → AloneOf (last_pass o p) y c
    last_alone p y (leaves on n x) z h = absurd z
    last_alone p y (leaves broken n x) z h =
        mapped (λ s. SeenFrom K m s x y) broken broken (last_pass o)
        (λ s g e i. as_left (λ s. SeenFrom K m s x y) broken s g e i) p h
    last_alone p y (leaves continued n x) z h = absurd z
    last_alone p y (leaves returned n x) z h =
        mapped (λ s. SeenFrom K m s x y) returned returned (last_pass o)
        (λ s g e i. as_left (λ s. SeenFrom K m s x y) returned s g e i) p h
    last_alone p y (running x) z h = tt
    last_alone p y (no_input x) z h = tt
    last_alone p y (undefined_at l k x) z h = tt

    gives_alone : (k : Way) (l : ℕ) (g : Transfer S) (y : State) (c : Outcome)
        → IfLeft k (λ x. TransferIsExact (λ s. SeenFrom K m s x y) g) c → AloneOf (simple_pass k l g) y c
    gives_alone k l g y (leaves w n x) h =
        subst (λ j. Leaves (λ s. SeenFrom K m s x y) j (simple_pass k l g)) (sym h.0)
        (simple_left (λ s. SeenFrom K m s x y) k l g h.1)
    gives_alone k l g y (running x) h = tt
    gives_alone k l g y (no_input x) h = tt
    gives_alone k l g y (undefined_at l' j x) h = tt

    rowed_gives : (go : S → Transfer S) (l : ℕ) (s : S) (y : State) (c : Outcome)
        → IfLeft on (λ x. TransferIsExact (λ s. SeenFrom K m s x y) (go s)) c
        → AloneOf (rowed o (λ s. simple_pass on l (go s)) s none) y c
    rowed_gives go l s y (leaves w n x) h =
        subst (λ j. Leaves (λ s. SeenFrom K m s x y) j (rowed o (λ s. simple_pass on l (go s)) s none)) (sym h.0)
        (rowed_on (λ s. SeenFrom K m s x y) (λ s. simple_pass on l (go s)) s
        (simple_left (λ s. SeenFrom K m s x y) on l (go s) h.1))
    rowed_gives go l s y (running x) h = tt
    rowed_gives go l s y (no_input x) h = tt
    rowed_gives go l s y (undefined_at l' j x) h = tt

    leave_call_alone : (p : Pass S) (y : State) (c : Outcome) → IsCall c → AloneOf p y c
        → AloneOf (leave_call o p) y (called_end c)
    leave_call_alone p y (leaves on n x) z h =
        mapped (λ s. SeenFrom K m s x y) on on (leave_call o) (λ s g e i. as_left (λ s. SeenFrom K m s x y) on s g e i)
        p h
    leave_call_alone p y (leaves broken n x) z h = absurd z
    leave_call_alone p y (leaves continued n x) z h = absurd z
    leave_call_alone p y (leaves returned n x) z h =
        mapped (λ s. SeenFrom K m s x y) returned on (leave_call o)
        (λ s g e i. as_left (λ s. SeenFrom K m s x y) on s g e i) p h
    leave_call_alone p y (running x) z h = tt
    leave_call_alone p y (no_input x) z h = tt
    leave_call_alone p y (undefined_at l k x) z h = tt

    -- where each pass from a good state is left so, so is this one
    lifted : (P : S → Type 0) (go : S → Pass S) (q : Pass S)
        → ((Q : S → Type 0) (k : Way) → ((s : S) → P s → Leaves Q k (go s)) → Leaves Q k q) → (y : State)
        → (c : Outcome) → ((s : S) → P s → AloneOf (go s) y c) → AloneOf q y c
    lifted P go q f y (leaves k n x) h = f (λ s. SeenFrom K m s x y) k h
    lifted P go q f y (running x) h = tt
    lifted P go q f y (no_input x) h = tt
    lifted P go q f y (undefined_at l k x) h = tt

    -- ---- tests: one truth is there, the other isn't

    pub first_there : (P Q : S → Type 0) (k : Way) (u v : Option S) (sure other : S → Pass S) → IsThere P u → v ≡ None
        → ((s : S) → P s → Leaves Q k (sure s))
        → Leaves Q k (either_pass o (either_pass o (ends []) (branch u sure)) (branch v other))
    first_there P Q k u None sure other h e f =
        either_after Q k (either_pass o (ends []) (branch u sure))
        (either_before Q k (branch u sure) (branch_left P Q k u sure h f))
    first_there P Q k u (Some s) sure other h e f = absurd cc

    pub second_there : (P Q : S → Type 0) (k : Way) (u v : Option S) (sure other : S → Pass S) → u ≡ None → IsThere P v
        → ((s : S) → P s → Leaves Q k (other s))
        → Leaves Q k (either_pass o (either_pass o (ends []) (branch u sure)) (branch v other))
    second_there P Q k None v sure other e h f = either_before Q k (branch v other) (branch_left P Q k v other h f)
    second_there P Q k (Some s) v sure other e h f = absurd cc

module _ (p : Program) (ord : Side → Order) {S : Type 0} (o : StateOps S) (K : S → State → State → Type 0)
    (law : Exactly p ord o K) (m : Side) where
  abbrev Of : Pass S → State → Outcome → Type 0
  Of q y c = AloneOf o K m q y c

  other_listed : (m : Side) (s : S) (x y : State) (t j : List ℕ) → SeenFrom K m s x y
      → SeenFrom K m s (retold t j x) y
  other_listed left s x y t j h = law.tests_free s x y h t j y.tests y.joint_tests
  other_listed right s x y t j h = law.tests_free s y x h y.tests y.joint_tests t j

  arm_alone : (q : Pass S) (y : State) (j : List ℕ) (c : Outcome) → Of q y c → Of q y (arm_left j c)
  arm_alone q y j (leaves k n x) h =
      more_left o (λ s. SeenFrom K m s x y)
      (λ s. SeenFrom K m s (retold (x.tests ++ code_of_way k ∷ []) (j ++ code_of_way k ∷ []) x) y) k q
      (λ s i. other_listed m s x y _ _ i) h
  arm_alone q y j (running x) h = tt
  arm_alone q y j (no_input x) h = tt
  arm_alone q y j (undefined_at l k x) h = tt

  scope_alone : (bs : List ℕ) (q : Pass S) (y : State) (c : Outcome) → Of q y c
      → Of (scope_pass o (One m) bs q) y (scope_left bs c)
  scope_alone bs q y (leaves k n x) h =
      turned_into o (λ s. SeenFrom K m s x y) P k k (scope_pass o (One m) bs) (by_way k) q h
    where
      P : S → Type 0
      P s = SeenFrom K m s (without bs x) y

      by_way : (k : Way) (s : S) (g : Log S) → g.faults ≡ [] → SeenFrom K m s x y
          → Leaves P k (scope_pass o (One m) bs (left_by k (Some s) g))
      by_way on s g e i = as_left o P on (o.leave (One m) bs s) g e (law.leave_alone m bs s x y i)
      by_way broken s g e i = as_left o P broken (o.leave (One m) bs s) g e (law.leave_alone m bs s x y i)
      by_way continued s g e i = as_left o P continued (o.leave (One m) bs s) g e (law.leave_alone m bs s x y i)
      by_way returned s g e i = as_left o P returned (o.leave (One m) bs s) g e (law.leave_alone m bs s x y i)
  scope_alone bs q y (running x) h = tt
  scope_alone bs q y (no_input x) h = tt
  scope_alone bs q y (undefined_at l k x) h = tt

  module _ (l : ℕ) (e : Expr) (seen : List ℕ) (typed : is_tested p.types p.blocks seen e ≡ true) where
    tested_alone : (sure q r other : S → Pass S) (f g : Going) (n : ℕ) (s : S) (x y : State) → SeenFrom K m s x y
        → ((s : S) (x : State) → SeenFrom K m s x y → Of (sure s) y (f n x))
        → ((s : S) (x : State) → SeenFrom K m s x y → Of (other s) y (g n x))
        → Of (tested o (ends []) (One m) e l sure q r other s) y
        (given (value (ord m) p e x.memory) l x (λ v. either (is_true v) f g n x))
    tested_alone sure q r other f g n s x y i hf hg = by_value (value (ord m) p e x.memory) refl
      where
        decided_yes : (v : Verdict) → GoesOn v → (P Q : S → Type 0) (k : Way) → IsThere P (o.assume_one m e true s)
            → o.assume_one m e false s ≡ None → ((s : S) → P s → Leaves Q k (sure s))
            → Leaves Q k (decided o (ends []) (One m) v e sure q r other s)
        decided_yes stuck z P Q k h d f = absurd z
        decided_yes same z P Q k h d f =
            first_there o K m P Q k (o.assume_one m e true s) (o.assume_one m e false s) sure other h d f
        decided_yes differs z P Q k h d f =
            first_there o K m P Q k (o.assume_one m e true s) (o.assume_one m e false s) sure other h d f

        decided_no : (v : Verdict) → GoesOn v → (P Q : S → Type 0) (k : Way) → IsThere P (o.assume_one m e false s)
            → o.assume_one m e true s ≡ None → ((s : S) → P s → Leaves Q k (other s))
            → Leaves Q k (decided o (ends []) (One m) v e sure q r other s)
        decided_no stuck z P Q k h d f = absurd z
        decided_no same z P Q k h d f =
            second_there o K m P Q k (o.assume_one m e true s) (o.assume_one m e false s) sure other d h f
        decided_no differs z P Q k h d f =
            second_there o K m P Q k (o.assume_one m e true s) (o.assume_one m e false s) sure other d h f

        by_truth : (t : Bool) → IsTruth p (ord m) e x.memory t
            → Of (tested o (ends []) (One m) e l sure q r other s) y (either t f g n x)
        by_truth true h =
            let t = law.test_alone m e seen typed true s x y i h in
            let a = law.assume_alone m e seen typed true s x y i h in
            let P : S → Type 0 = λ s. SeenFrom K m s x y in
            lifted o K m P sure (tested o (ends []) (One m) e l sure q r other s)
            (λ Q k f. after_left o Q k (logged (found_at l (o.test (One m) e s).faults) 0 [])
            (ap (found_at l) t.0) (decided o (ends []) (One m) (o.test (One m) e s).verdict e sure q r other s)
            (decided_yes (o.test (One m) e s).verdict t.1 P Q k a.0 a.1 f)) y (f n (listed (code_of_test true) x))
            (λ s j. hf s (listed (code_of_test true) x) (other_listed m s x y _ _ j))
        by_truth false h =
            let t = law.test_alone m e seen typed false s x y i h in
            let a = law.assume_alone m e seen typed false s x y i h in
            let P : S → Type 0 = λ s. SeenFrom K m s x y in
            lifted o K m P other (tested o (ends []) (One m) e l sure q r other s)
            (λ Q k f. after_left o Q k (logged (found_at l (o.test (One m) e s).faults) 0 [])
            (ap (found_at l) t.0) (decided o (ends []) (One m) (o.test (One m) e s).verdict e sure q r other s)
            (decided_no (o.test (One m) e s).verdict t.1 P Q k a.0 a.1 f)) y (g n (listed (code_of_test false) x))
            (λ s j. hg s (listed (code_of_test false) x) (other_listed m s x y _ _ j))

        by_value : (v : Found) → value (ord m) p e x.memory ≡ v
            → Of (tested o (ends []) (One m) e l sure q r other s) y
            (given v l x (λ v. either (is_true v) f g n x))
        by_value (has v) d = by_truth (is_true v) (record { found = v; has = d; is = refl })
        by_value (faults k) d = tt

    -- ---- loops

    module _ (u : ℕ) (body : Mode → S → Pass S) (f : Going) (r : Bool)
        (is_turn : (n : ℕ) (x : State) → IsTurnOf r (f n x))
        (known : (n : ℕ) (s : S) (x y : State) → SeenFrom K m s x y → Of (body (One m) s) y (f n x)) where
      abbrev test : Memory → Found
      test = value (ord m) p e

      inside : (n : ℕ) (s : S) (x y : State) → SeenFrom K m s x y → Of (in_body o u l e body (One m) s) y (f n x)
      inside n s x y i = after_alone o K m (logged [] 1 []) refl (body (One m) s) y (f n x) (known n s x y i)

      jumps_out : (n : ℕ) (s : S) (x y : State) → SeenFrom K m s x y → Of (jumps broken s) y (leaves broken n x)
      jumps_out n s x y i = as_left o (λ s. SeenFrom K m s x y) broken s (logged [] 0 []) refl i

      turn_left : (c : Outcome) → IsVisitOf r c → IsTurnLeft c
      turn_left (leaves on n x) h = h
      turn_left (leaves broken n x) h = tt
      turn_left (leaves continued n x) h = h
      turn_left (leaves returned n x) h = tt
      turn_left (running x) h = tt
      turn_left (no_input x) h = tt
      turn_left (undefined_at l k x) h = tt

      tests_then : (v : Found) (g : Going) (n : ℕ) (x : State)
          → given v l x (λ v. either (is_true v) (λ n s. and_then (f n s) g) (leaves broken) n x)
          ≡ and_then (given v l x (λ v. either (is_true v) f (leaves broken) n x)) g
      tests_then (faults k) g n x = refl
      tests_then (has v) g n x = by_truth (is_true v)
        where
          by_truth : (t : Bool)
              → either t (λ n s. and_then (f n s) g) (leaves broken) n x ≡ and_then (either t f (leaves broken) n x) g
          by_truth true = refl
          by_truth false = refl

      stopped_then : (v : Found) (g : Going) (n : ℕ) (x : State)
          → given v l x (λ v. either (is_true v) (turns_from test l f zero) (leaves broken) n x)
          ≡ and_then (given v l x (λ v. either (is_true v) (turns_from test l f zero) (leaves broken) n x)) g
      stopped_then (faults k) g n x = refl
      stopped_then (has v) g n x = by_truth (is_true v)
        where
          by_truth : (t : Bool)
              → either t (turns_from test l f zero) (leaves broken) n x
              ≡ and_then (either t (turns_from test l f zero) (leaves broken) n x) g
          by_truth true = refl
          by_truth false = refl

      -- of the turns that are unrolled, the machine makes no more than k
      rounds_alone : (j k : ℕ) → k ≤ j → (n : ℕ) (s : S) (x y : State) → SeenFrom K m s x y
          → Of (one_rounds o u l e body m j s none) y (tests_from test l f k n x)
      rounds_alone zero (suc k) le n s x y i = absurd (omega (arith, le))
      rounds_alone zero zero le n s x y i =
          last_alone o K m (cut_turn o u l e body m none s) y (tests_from test l f zero n x)
          (turn_left _ (visit_is test l f r is_turn true zero n x))
          (tested_alone (λ s. ends (too_long l)) (λ s. ends []) (λ s. ends []) (jumps broken)
          (turns_from test l f zero)
          (leaves broken) n s x y i (λ s x j. tt) (λ s x j. jumps_out n s x y j))
      rounds_alone (suc j) zero le n s x y i =
          subst (Of (one_rounds o u l e body m (suc j) s none) y)
          (sym (stopped_then (test x.memory) (tests_from test l f zero) n x))
          (turn_alone o K m (one_turn o u l e body m none s) y (tests_from test l f zero n x)
          (unrolled o (one_turn o u l e body m) (cut_turn o u l e body m) j) (tests_from test l f zero)
          (tested_alone (in_body o u l e body (One m)) (λ s. ends []) (λ s. ends []) (jumps broken)
          (turns_from test l f zero) (leaves broken) n s x y i (λ s x j. tt) (λ s x j. jumps_out n s x y j))
          (λ n s x i. rounds_alone j zero (omega arith) n s x y i))
      rounds_alone (suc j) (suc k) le n s x y i =
          subst (Of (one_rounds o u l e body m (suc j) s none) y)
          (sym (tests_then (test x.memory) (tests_from test l f k) n x))
          (turn_alone o K m (one_turn o u l e body m none s) y
          (given (test x.memory) l x (λ v. either (is_true v) f (leaves broken) n x))
          (unrolled o (one_turn o u l e body m) (cut_turn o u l e body m) j) (tests_from test l f k)
          (tested_alone (in_body o u l e body (One m)) (λ s. ends []) (λ s. ends []) (jumps broken) f
          (leaves broken) n s x y i (λ s x j. inside n s x y j) (λ s x j. jumps_out n s x y j))
          (λ n s x i. rounds_alone j k (omega (arith, le)) n s x y i))

      pub entered_alone : (j k : ℕ) → k ≤ j → (n : ℕ) (s : S) (x y : State) → SeenFrom K m s x y
          → Of (entered o u l e body m j s) y (turns_from test l f k n x)
      entered_alone j zero le n s x y i = tt
      entered_alone zero (suc k) le n s x y i = absurd (omega (arith, le))
      entered_alone (suc j) (suc k) le n s x y i =
          then_alone o K m (in_body o u l e body (One m) s) y (f n x) (one_rounds o u l e body m j)
          (tests_from test l f k) (inside n s x y i) (λ n s x i. rounds_alone j k (omega (arith, le)) n s x y i)

    module _ (u : ℕ) (heads : Heads S) (body : (before : ℕ) → Mode → S → Pass S) (before : ℕ) (f : Going) (r : Bool)
        (is_turn : (n : ℕ) (x : State) → IsTurnOf r (f n x))
        (known : (n : ℕ) (s : S) (x y : State) → SeenFrom K m s x y → Of (body before (One m) s) y (f n x))
        (most : ℕ) (le : most ≤ u) where
      abbrev its_test : Memory → Found
      its_test = value (ord m) p e

      loop_alone : (first : Bool) (n : ℕ) (s : S) (x y : State) → SeenFrom K m s x y
          → Of (loop_pass o u heads l e body before (One m) first s) y
          (loop_left (visit its_test l f first most n x))
      loop_alone true n s x y i =
          loop_left_alone o K m (one_rounds o u l e (body before) m u s none) y (tests_from its_test l f most n x)
          (turn_left u (body before) f r is_turn known _ (visit_is its_test l f r is_turn true most n x))
          (rounds_alone u (body before) f r is_turn known u most le n s x y i)
      loop_alone false n s x y i =
          loop_left_alone o K m (entered o u l e (body before) m u s) y (turns_from its_test l f most n x)
          (turn_left u (body before) f r is_turn known _ (visit_is its_test l f r is_turn false most n x))
          (entered_alone u (body before) f r is_turn known u most le n s x y i)

  -- ---- statements

  or_false : (a b : Bool) → (a || b) ≡ false → (a ≡ false) × (b ≡ false)
  or_false false b e = (refl, e)
  or_false true b e = absurd cc

  call_alone : (k : ℕ) (f : Function) → slice_get p.functions k ≡ Some f → (es : List Expr) (d : Option Dest)
      (seen : List ℕ) → arguments_fit p.types p.blocks seen f.params es ≡ true
      → takes_result p.types p.blocks seen (result_type p.blocks f.result) d ≡ true
      → (l : ℕ) (go : S → Pass S) (body : Going)
      → ((n : ℕ) (s : S) (x y : State) → SeenFrom K m s x y → Of (go s) y (body n x))
      → ((n : ℕ) (x : State) → IsCall (body n x)) → (n : ℕ) (s : S) (x y : State) → SeenFrom K m s x y
      → Of (call_pass o (Some f) (One m) es d l go s) y (call_of (ord m) p (Some f) body es d l n x)
  call_alone k f at es d seen fits takes l go body known calls n s x y i =
      subst (Of (call_pass o (Some f) (One m) es d l go s) y) (sym (call_is (ord m) p f body es d l n x))
      (then_alone o K m
      (then_pass o (simple_pass on l (o.arguments (One m) f es s)) none (rowed o middle)) y
      (and_then (passes (ord m) p f es l n x) (run_called f body))
      (rowed o (λ s. simple_pass on l (o.result (One m) f d s))) (received (ord m) p f.result d l)
      (then_alone o K m (simple_pass on l (o.arguments (One m) f es s)) y (passes (ord m) p f es l n x)
      (rowed o middle) (run_called f body)
      (gives_alone o K m on l (o.arguments (One m) f es s) y (passes (ord m) p f es l n x)
      (law.arguments_alone m k f at es seen fits l n s x y i))
      (λ n s x i. rowed_alone o K m middle s y (run_called f body n x)
      (end_plain (scope_left (frame_of f) (body n x))) (middle_alone n s x i)))
      (λ n s x i. rowed_gives o K m (λ s. o.result (One m) f d s) l s y (received (ord m) p f.result d l n x)
      (law.result_alone m k f at d seen takes l n s x y i)))
    where
      middle : S → Pass S
      middle s = leave_call o (scope_pass o (One m) (frame_of f) (go s))

      end_plain : (c : Outcome) → IsPlain (called_end c)
      end_plain (leaves k n x) = tt
      end_plain (running x) = tt
      end_plain (no_input x) = tt
      end_plain (undefined_at l k x) = tt

      middle_alone : (n : ℕ) (s : S) (x : State) → SeenFrom K m s x y → Of (middle s) y (run_called f body n x)
      middle_alone n s x i =
          leave_call_alone o K m (scope_pass o (One m) (frame_of f) (go s)) y (scope_left (frame_of f) (body n x))
          (scope_call (frame_of f) (body n x) (calls n x))
          (scope_alone (frame_of f) (go s) y (body n x) (known n s x y i))

  -- so many turns are unrolled, and the machine makes no more than `most` of them
  module _ (u : ℕ) (heads : Heads S) (most : ℕ) (le : most ≤ u) where
    module _ (here : ℕ) (f : Function) (at : slice_get p.functions here ≡ Some f) (ps : ℕ → (before : ℕ) → Mode → S → Pass S)
        (fs : ℕ → Going) (ts : ℕ → Bool) (calls : (k n : ℕ) (x : State) → IsCall (fs k n x))
        (known : (k : ℕ) → ts k ≡ false → (g : Function) → slice_get p.functions k ≡ Some g
        → (before n : ℕ) (s : S) (x y : State) → SeenFrom K m s x y → Of (ps k before (One m) s) y (fs k n x)) where
      abbrev own : Option ℕ
      own = result_type p.blocks f.result

      abbrev arm : Stmts → (before : ℕ) → Mode → S → Pass S
      arm a before m s = pass_all o u heads ord p here ps a before m s none

      abbrev past_arm : Stmts → (before : ℕ) → Mode → S → ℕ
      past_arm a before m s = past heads before (arm a before m s)

      abbrev turn_body : Stmts → Stmts → (before : ℕ) → Mode → S → Pass S
      turn_body a b before m s = next_pass o (arm a before m s) (arm b (past_arm a before m s) m)

      abbrev run : Stmts → Going
      run a = all_in (ord m) p most here fs a

      called_alone : (k : ℕ) (es : List Expr) (d : Option Dest) (seen : List ℕ) → ts k ≡ false
          → (before l n : ℕ) (s : S) (x y : State) → SeenFrom K m s x y → (g : Option Function) → callee_of p here k ≡ g
          → call_fits p here own g es d seen ≡ true
          → Of (call_pass o g (One m) es d l (ps k before (One m)) s) y (call_of (ord m) p g (fs k) es d l n x)
      called_alone k es d seen quiet before l n s x y i None e fits = tt
      called_alone k es d seen quiet before l n s x y i (Some g) e fits =
          let q = and_parts (arguments_fit p.types p.blocks seen g.params es)
          (takes_result p.types p.blocks seen (result_type p.blocks g.result) d) fits in
          call_alone k g (callee_at p here k g e) es d seen q.0 q.1 l (ps k before (One m)) (fs k)
          (known k quiet g (callee_at p here k g e) before) (calls k) n s x y i

      arm_of_alone : (t : Bool) (a b : Mode → S → Pass S) (h g : Going) (n : ℕ) (s : S) (x y : State)
          → Of (a (One m) s) y (h n x) → Of (b (One m) s) y (g n x)
          → Of (arm_of o t a b (One m) s) y (chosen t h g n x)
      arm_of_alone true a b h g n s x y i j = i
      arm_of_alone false a b h g n s x y i j = j

      mutual
        pass_alone : (w : What) (seen : List ℕ) (i : Bool) → what_fits p here own w seen i ≡ true
            → comes_to is_talk ts w ≡ false → (before l n : ℕ) (s : S) (x y : State) → SeenFrom K m s x y
            → Of (pass o u heads ord p here ps w before (One m) l s) y (exec_in (ord m) p most here fs w l n x)
        pass_alone (simple w) seen i fits quiet before l n s x y h =
            subst (λ g. Of (simple_pass (way_of w) l (o.simple (One m) (result_in g) w s)) y
            (does (ord m) p uncounted (result_in g) w l n x)) (sym at)
            (gives_alone o K m (way_of w) l (o.simple (One m) f.result w s) y
            (does (ord m) p uncounted f.result w l n x)
            (law.simple_alone m here f at w seen fits quiet l n s x y h))
        pass_alone (call k es d) seen i fits quiet before l n s x y h =
            called_alone k es d seen quiet before l n s x y h (callee_of p here k) refl fits
        pass_alone (if_else e a b) seen i fits quiet before l n s x y h =
            let q = and_parts (is_tested p.types p.blocks seen e && stmts_fit p here own a seen i)
            (stmts_fit p here own b seen i) fits in
            let r = and_parts (is_tested p.types p.blocks seen e) (stmts_fit p here own a seen i) q.0 in
            let z = or_false (some_comes_to is_talk ts a) (some_comes_to is_talk ts b) quiet in
            let later = past heads before (branch (agreed o (One m) e true s) (arm a before (One m))) in
            tested_alone l e seen r.0 (arm a before (One m)) (apart o l (arm a before) (arm b before))
            (apart o l (arm b before) (arm a before)) (arm b later (One m)) (run a) (run b) n s x y h
            (λ s x h. all_alone a seen i r.1 z.0 before n s x y h)
            (λ s x h. all_alone b seen i q.1 z.1 later n s x y h)
        pass_alone (loop first e a b) seen i fits quiet before l n s x y h =
            let q = and_parts (is_tested p.types p.blocks seen e && stmts_fit p here own a seen true)
            (are_plain b && stmts_fit p here own b seen i) fits in
            let r = and_parts (is_tested p.types p.blocks seen e) (stmts_fit p here own a seen true) q.0 in
            let v = and_parts (are_plain b) (stmts_fit p here own b seen i) q.1 in
            let z = or_false (some_comes_to is_talk ts a) (some_comes_to is_talk ts b) quiet in
            let plain = plain_in (ord m) p most here fs own b seen i v.0 v.1 in
            loop_alone l e seen r.0 u heads (turn_body a b) before (with_next (run a) (run b))
            (ways_of_all a).by_return
            (λ n x. body_turn (ways_of_all a) (run a n x) (run b)
            (all_among_in (ord m) p most here fs own a seen true r.1 n x) plain)
            (λ n s x y h. then_alone o K m (body_ends o (arm a before (One m) s)) y (body_end (run a n x))
            (rowed o (arm b (past_arm a before (One m) s) (One m))) (run b)
            (body_ends_alone o K m (arm a before (One m) s) y (run a n x)
            (all_alone a seen true r.1 z.0 before n s x y h))
            (λ n t x h. rowed_alone o K m (arm b (past_arm a before (One m) s) (One m)) t y (run b n x) (plain n x)
            (all_alone b seen i v.1 z.1 (past_arm a before (One m) s) n t x y h))) most le first n s x y h
        pass_alone break_loop seen i fits quiet before l n s x y h =
            as_left o (λ s. SeenFrom K m s x y) broken s (logged [] 0 []) refl h
        pass_alone continue_loop seen i fits quiet before l n s x y h =
            as_left o (λ s. SeenFrom K m s x y) continued s (logged [] 0 []) refl h
        pass_alone (by_order named a b) seen i fits quiet before l n s x y h =
            let q = and_parts (stmts_fit p here own a seen i) (stmts_fit p here own b seen i) fits in
            let z = or_false (some_comes_to is_talk ts a) (some_comes_to is_talk ts b) quiet in
            arm_alone (arm_of o (is_order (ord m) named) (arm a before) (arm b before) (One m) s) y x.joint_tests
            (chosen (is_order (ord m) named) (run a) (run b) n x)
            (arm_of_alone (is_order (ord m) named) (arm a before) (arm b before) (run a) (run b) n s x y
            (all_alone a seen i q.0 z.0 before n s x y h) (all_alone b seen i q.1 z.1 before n s x y h))
        pass_alone (scope bs a) seen i fits quiet before l n s x y h =
            scope_alone bs (arm a before (One m) (o.enter (One m) bs s)) y (run a n (without bs x))
            (all_alone a (bs ++ seen) i fits quiet before n (o.enter (One m) bs s) (without bs x) y
            (law.enter_alone m bs s x y h))

        pub all_alone : (ss : Stmts) (seen : List ℕ) (i : Bool) → stmts_fit p here own ss seen i ≡ true
            → some_comes_to is_talk ts ss ≡ false → (before n : ℕ) (s : S) (x y : State) → SeenFrom K m s x y
            → Of (arm ss before (One m) s) y (run ss n x)
        all_alone stop seen i fits quiet before n s x y h =
            as_left o (λ s. SeenFrom K m s x y) on s (logged [] 0 []) refl h
        all_alone (more l w rest) seen i fits quiet before n s x y h =
            let q = and_parts (what_fits p here own w seen i) (stmts_fit p here own rest seen i) fits in
            let z = or_false (comes_to is_talk ts w) (some_comes_to is_talk ts rest) quiet in
            let first = pass o u heads ord p here ps w before (One m) l s in
            then_alone o K m first y (exec_in (ord m) p most here fs w l n x)
            (pass_all o u heads ord p here ps rest (past heads before first) (One m)) (run rest)
            (pass_alone w seen i q.0 z.0 before l n s x y h)
            (λ n s x h. all_alone rest seen i q.1 z.1 (past heads before first) n s x y h)

    -- ---- functions

    module _ (formed : is_well_formed p ≡ true) where
      abbrev KnownAlone : ℕ → ((before : ℕ) → Mode → S → Pass S) → Going → Bool → Type 0
      KnownAlone k go run talks =
          talks ≡ false → (g : Function) → slice_get p.functions k ≡ Some g → (before n : ℕ) (s : S) (x y : State)
          → SeenFrom K m s x y → Of (go before (One m) s) y (run n x)

      chosen_alone : (k n : ℕ) (a b : (before : ℕ) → Mode → S → Pass S) (f g : Going) (t v : Bool) (eq : Bool)
          → nat_eq k n ≡ eq → KnownAlone n a f t → KnownAlone k b g v
          → KnownAlone k (λ before. arm_of o eq (a before) (b before)) (chosen eq f g) (answer_if eq t v)
      chosen_alone k n a b f g t v true e h i = subst (λ j. KnownAlone j a f t) (sym (eqb-true k n e)) h
      chosen_alone k n a b f g t v false e h i = i

      pub bodies_alone : (n k : ℕ)
          → KnownAlone k (bodies_pass o u heads ord p n k) (bodies_in (ord m) p most n k)
          (bodies_come_to is_talk p n k)
      bodies_alone zero k = λ quiet g at before n s x y h. as_left o (λ s. SeenFrom K m s x y) on s (logged [] 0 []) refl h
      bodies_alone (suc n) k =
          chosen_alone k n (body_pass o u heads ord p (slice_get p.functions n) n (bodies_pass o u heads ord p n))
          (bodies_pass o u heads ord p n k) (body_in (ord m) p most (slice_get p.functions n) n (bodies_in (ord m) p most n))
          (bodies_in (ord m) p most n k) (body_comes_to is_talk (slice_get p.functions n) (bodies_come_to is_talk p n))
          (bodies_come_to is_talk p n k) (nat_eq k n) refl
          (λ quiet g at before j s x y h. body_alone n g at quiet before j s x y h (bodies_alone n)) (bodies_alone n k)
        where
          body_alone : (n : ℕ) (g : Function) → slice_get p.functions n ≡ Some g
              → body_comes_to is_talk (slice_get p.functions n) (bodies_come_to is_talk p n) ≡ false
              → (before j : ℕ) (s : S) (x y : State) → SeenFrom K m s x y
              → ((k : ℕ) → KnownAlone k (bodies_pass o u heads ord p n k) (bodies_in (ord m) p most n k)
              (bodies_come_to is_talk p n k))
              → Of (body_pass o u heads ord p (slice_get p.functions n) n (bodies_pass o u heads ord p n) before (One m) s) y
              (body_in (ord m) p most (slice_get p.functions n) n (bodies_in (ord m) p most n) j x)
          body_alone n g at quiet before j s x y h known =
              subst (λ z. body_comes_to is_talk z (bodies_come_to is_talk p n) ≡ false
              → Of (body_pass o u heads ord p z n (bodies_pass o u heads ord p n) before (One m) s) y
              (body_in (ord m) p most z n (bodies_in (ord m) p most n) j x)) (sym at)
              (λ quiet. all_alone n g at (bodies_pass o u heads ord p n) (bodies_in (ord m) p most n)
              (bodies_come_to is_talk p n) (bodies_call_in (ord m) p most formed n) known g.body (frame_of g) false
              (fits_at p formed n g at).2 quiet before j s x y h) quiet
