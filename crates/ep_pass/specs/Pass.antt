-- What is found in a program: a pass through its statements, with one case for each kind. What happens at a loop of
-- both machines that goes on is left open: an analysis tries heads, a checker is given them. The rules are this
-- project's.
use Rattle.std.specs.Prelude.{ℕ, zero, suc, ◌+◌, ◌-◌, pos, Bool, true, false, if◌then◌else◌, nat_eq, List, [], ◌∷◌}
use Rattle.std.specs.Prelude.{◌++◌, map, slice_get, Option, Some, None}
use Rattle.ep_int.specs.declared.types.Order.{Order}
use Rattle.ep_alarms.specs.declared.types.Alarm.{Alarm}
use Rattle.ep_alarms.specs.declared.types.AlarmKind.{AlarmKind}
use Rattle.ep_alarms.specs.declared.types.AlarmKind.TheVariants.{E3, E4}
use Rattle.ep_alarms.specs.Report.{gathered}
use Rattle.ep_core.specs.Program.{Expr, Dest, Simple, What, simple, call, if_else, loop, break_loop, continue_loop}
use Rattle.ep_core.specs.Program.{by_order, scope, Stmts, stop, more, Function, Program}
use Rattle.ep_core.specs.Exec.{Way, on, broken, continued, returned, is_order, frame_of, result_in, callee_of}
use Rattle.ep_core.specs.Runs.{Side, left, right}
use Rattle.ep_core.specs.WellFormed.{is_return}
use Rattle.ep_pass.specs.States.{Mode, Both, One, Fault, Transfer, Verdict, stuck, same, differs, StateOps}

-- The states in which statements are left otherwise than at their end, where they are.
pub record Ways (S : Type 0) : Type 0 where
  pub broken : Option S
  pub continued : Option S
  pub returned : Option S

abbrev pub none : {S : Type 0} → Ways S
none = record { broken = None; continued = None; returned = None }

-- What is found: an alarm, or of heads that are given that a state is outside the head of this number, whose cell of
-- this number is the first that it fails, or that none is left for the loop on this line.
pub data Event : Type 0 where
  alarm : Alarm → Event
  outside : (line head cell : ℕ) → Event
  missing : (line : ℕ) → Event

-- What is found, in the order of its coming, how often the body of a loop was gone through, and the heads from which
-- the last turns of loops went, each before those inside its turn.
pub record Log (S : Type 0) : Type 0 where
  pub faults : List Event
  pub count : ℕ
  pub heads : List S

abbrev pub logged : {S : Type 0} → List Event → ℕ → List S → Log S
logged fs n hs = record { faults = fs; count = n; heads = hs }

abbrev pub both_logs : {S : Type 0} → Log S → Log S → Log S
both_logs g h = logged (g.faults ++ h.faults) (g.count + h.count) (g.heads ++ h.heads)

pub record Pass (S : Type 0) : Type 0 where
  pub on : Option S
  pub ways : Ways S
  pub log : Log S

abbrev pub passed : {S : Type 0} → Option S → Ways S → Log S → Pass S
passed u w g = record { on = u; ways = w; log = g }

abbrev pub after : {S : Type 0} → Log S → Pass S → Pass S
after g p = passed p.on p.ways (both_logs g p.log)

-- nothing is reached
abbrev pub ends : {S : Type 0} → List Event → Pass S
ends fs = passed None none (logged fs 0 [])

-- the ways out so far
abbrev pub so_far : {S : Type 0} → Ways S → Pass S
so_far w = passed None w (logged [] 0 [])

-- goes on from a state, if it is reached
abbrev pub branch : {S : Type 0} → Option S → (S → Pass S) → Pass S
branch None go = ends []
branch (Some s) go = go s

-- ---- alarms

-- each fault of a statement is an alarm on its line
abbrev pub alarm_at : (line : ℕ) → Fault → Alarm
alarm_at l f = record { line = l; kind = f.kind; left = f.left; right = f.right }

abbrev pub found_at : (line : ℕ) → List Fault → List Event
found_at l [] = []
found_at l (f ∷ fs) = alarm (alarm_at l f) ∷ found_at l fs

-- an alarm that shows no number
abbrev pub plain_alarm : AlarmKind → (line : ℕ) → Alarm
plain_alarm k l = record { line = l; kind = k; left = (pos 0, pos 0); right = (pos 0, pos 0) }

-- the sides are left by different ways, where this state is reached
abbrev pub differ : {S : Type 0} → (line : ℕ) → Option S → List Event
differ l None = []
differ l (Some s) = alarm (plain_alarm E3 l) ∷ []

-- the turns of one side's loop may go on
abbrev pub too_long : (line : ℕ) → List Event
too_long l = alarm (plain_alarm E4 l) ∷ []

-- Each event is shown as an alarm: where a head doesn't hold, the sides may part.
abbrev pub alarm_of : Event → Alarm
alarm_of (alarm a) = a
alarm_of (outside l n k) = plain_alarm E3 l
alarm_of (missing l) = plain_alarm E3 l

-- the alarms of a statement
abbrev pub alarms_at : (line : ℕ) → List Fault → List Alarm
alarms_at l fs = map alarm_of (found_at l fs)

-- ---- statements without statements in them

-- left by this way, where a state is reached
abbrev pub left_by : {S : Type 0} → Way → Option S → Log S → Pass S
left_by on u g = passed u none g
left_by broken u g = passed None (record { broken = u; continued = None; returned = None }) g
left_by continued u g = passed None (record { broken = None; continued = u; returned = None }) g
left_by returned u g = passed None (record { broken = None; continued = None; returned = u }) g

abbrev pub jumps : {S : Type 0} → Way → S → Pass S
jumps k s = left_by k (Some s) (logged [] 0 [])

abbrev pub way_if : (is_return : Bool) → Way
way_if true = returned
way_if false = on

-- the way by which it is left
abbrev pub way_of : Simple → Way
way_of w = way_if (is_return w)

abbrev pub simple_pass : {S : Type 0} → Way → (line : ℕ) → Transfer S → Pass S
simple_pass k l g = left_by k g.next (logged (found_at l g.faults) 0 [])

-- ---- Where the sides go different ways, the right's arm is gone through from each way out of the left's. Equal ways
-- go on; each other one that is reached is an alarm, and ends.

abbrev pub only_on : {S : Type 0} → ℕ → Pass S → Pass S
only_on l p =
    passed p.on none
    (both_logs p.log (logged (differ l p.ways.broken ++ (differ l p.ways.continued ++ differ l p.ways.returned)) 0 []))

abbrev pub only_broken : {S : Type 0} → ℕ → Pass S → Pass S
only_broken l p =
    left_by broken p.ways.broken
    (both_logs p.log (logged (differ l p.on ++ (differ l p.ways.continued ++ differ l p.ways.returned)) 0 []))

abbrev pub only_continued : {S : Type 0} → ℕ → Pass S → Pass S
only_continued l p =
    left_by continued p.ways.continued
    (both_logs p.log (logged (differ l p.on ++ (differ l p.ways.broken ++ differ l p.ways.returned)) 0 []))

abbrev pub only_returned : {S : Type 0} → ℕ → Pass S → Pass S
only_returned l p =
    left_by returned p.ways.returned
    (both_logs p.log (logged (differ l p.on ++ (differ l p.ways.broken ++ differ l p.ways.continued)) 0 []))

-- ---- what the end of a loop makes of the ways

-- The turns of a loop are left by `broken` where their test is false, as by `break`.
abbrev pub leave_loop : {S : Type 0} → Pass S → Pass S
leave_loop p =
    passed p.ways.broken (record { broken = None; continued = None; returned = p.ways.returned }) p.log

-- One side's turns while the other has left the loop: it has to come out of the loop too.
abbrev pub comes_after : {S : Type 0} → ℕ → Pass S → Pass S
comes_after l p = left_by broken p.ways.broken (both_logs p.log (logged (differ l p.ways.returned) 0 []))

-- each entry of a loop's body counts
abbrev pub turn_counted : {S : Type 0} → Pass S → Pass S
turn_counted p = after (logged [] 1 []) p

-- the turn from the head that is kept
abbrev pub from_head : {S : Type 0} → S → Pass S → Pass S
from_head h p = after (logged [] 0 (h ∷ [])) p

-- the turn from a head that is not kept is counted, and that is all
abbrev pub dropped : {S : Type 0} → Pass S → Pass S → Pass S
dropped p q = after (logged [] p.log.count []) q

-- ---- heads

-- What happens at a loop of both machines that goes on after its unrolled turns.
pub record Heads (S : Type 0) : Type 0 where
  -- how many numbers were taken for these heads of a log
  pub taken : List S → ℕ
  -- from a state on, where so many numbers were taken before: the last turn, and what led to it
  pub settle : (before line : ℕ) → (turn : (before : ℕ) → S → Pass S) → S → Pass S

-- the numbers taken before what comes next
abbrev pub past : {S : Type 0} → Heads S → ℕ → Pass S → ℕ
past heads n p = n + heads.taken p.log.heads

module _ {S : Type 0} (o : StateOps S) where
  -- ---- joins

  abbrev pub join_two : S × S → S
  join_two q = o.joined q.0 q.1

  -- the first was reached before
  abbrev pub join_on : Option S → Option S → Option S
  join_on None v = v
  join_on (Some s) None = Some s
  join_on (Some s) (Some t) = Some (join_two (o.unified s t))

  abbrev pub join_ways : Ways S → Ways S → Ways S
  join_ways v w = record {
    broken = join_on v.broken w.broken;
    continued = join_on v.continued w.continued;
    returned = join_on v.returned w.returned;
  }

  -- one pass or another
  abbrev pub either_pass : Pass S → Pass S → Pass S
  either_pass p q = passed (join_on p.on q.on) (join_ways p.ways q.ways) (both_logs p.log q.log)

  -- ---- rows of statements

  -- goes on from the end of a pass, where it is reached, with the other ways out so far
  abbrev pub go_on : Option S → Ways S → Log S → (S → Ways S → Pass S) → Pass S
  go_on None w g go = passed None w g
  go_on (Some s) w g go = after g (go s w)

  abbrev pub then_pass : Pass S → Ways S → (S → Ways S → Pass S) → Pass S
  then_pass p w go = go_on p.on (join_ways w p.ways) p.log go

  -- goes on as one statement of a row, which is left at its end alone
  abbrev pub rowed : (S → Pass S) → S → Ways S → Pass S
  rowed go s w = passed (go s).on w (go s).log

  -- ---- scopes and calls

  -- a scope is left by each way out
  abbrev pub leave_on : Mode → List ℕ → Option S → Option S
  leave_on m bs None = None
  leave_on m bs (Some s) = Some (o.leave m bs s)

  abbrev pub scope_pass : Mode → List ℕ → Pass S → Pass S
  scope_pass m bs p =
      passed (leave_on m bs p.on)
      (record {
        broken = leave_on m bs p.ways.broken;
        continued = leave_on m bs p.ways.continued;
        returned = leave_on m bs p.ways.returned;
      }) p.log

  -- a function is left by `return`, then at its end
  abbrev pub leave_call : Pass S → Pass S
  leave_call p = passed (join_on p.ways.returned p.on) none p.log

  -- A call of this function, whose body is gone through so. No well-formed program calls a function that isn't there.
  abbrev pub call_pass : Option Function → Mode → List Expr → Option Dest → (line : ℕ) → (body : S → Pass S) → S
      → Pass S
  call_pass None m es d l body s = ends []
  call_pass (Some f) m es d l body s =
      then_pass
      (then_pass (simple_pass on l (o.arguments m f es s)) none
      (rowed (λ s. leave_call (scope_pass m (frame_of f) (body s)))))
      none (rowed (λ s. simple_pass on l (o.result m f d s)))

  -- ---- the step part of a loop

  -- a turn's body is left by `continue`, then at its end
  abbrev pub body_ends : Pass S → Pass S
  body_ends p =
      passed (join_on p.ways.continued p.on)
      (record { broken = p.ways.broken; continued = None; returned = p.ways.returned }) p.log

  -- the step part is left at its end alone
  abbrev pub next_pass : Pass S → (S → Pass S) → Pass S
  next_pass p next = then_pass (body_ends p) none (rowed next)

  -- ---- tests

  -- one truth on each running side
  abbrev pub agreed : Mode → Expr → Bool → S → Option S
  agreed Both e t s = o.assume e t t s
  agreed (One m) e t s = o.assume_one m e t s

  -- both truths, or one
  abbrev pub two_ways : Pass S → Mode → Expr → (yes no : S → Pass S) → S → Pass S
  two_ways a m e p q s = either_pass (either_pass a (branch (agreed m e true s) p)) (branch (agreed m e false s) q)

  -- maybe different truths, the left's first
  abbrev pub four_ways : Pass S → Expr → (both left_alone right_alone neither : S → Pass S) → S → Pass S
  four_ways a e p q r t s =
      either_pass
      (either_pass
      (either_pass (either_pass a (branch (o.assume e true true s) p)) (branch (o.assume e true false s) q))
      (branch (o.assume e false true s) r))
      (branch (o.assume e false false s) t)

  abbrev pub decided : Pass S → Mode → Verdict → Expr → (both left_alone right_alone neither : S → Pass S) → S → Pass S
  decided a m stuck e p q r t s = a
  decided a m same e p q r t s = two_ways a m e p t s
  decided a Both differs e p q r t s = four_ways a e p q r t s
  decided a (One m) differs e p q r t s = two_ways a (One m) e p t s

  -- A test, and what follows for each pair of truths. Each state is joined by itself to what came before: in a loop,
  -- the ways out so far.
  abbrev pub tested : Pass S → Mode → Expr → (line : ℕ) → (both left_alone right_alone neither : S → Pass S) → S
      → Pass S
  tested a m e l p q r t s =
      after (logged (found_at l (o.test m e s).faults) 0 []) (decided a m (o.test m e s).verdict e p q r t s)

  -- ---- the sides go different ways: first the left, to its end, then the right from each way out

  abbrev pub parted : ℕ → Pass S → (S → Pass S) → Pass S
  parted l p go =
      after p.log
      (either_pass
      (either_pass
      (either_pass (only_on l (branch p.on go)) (only_broken l (branch p.ways.broken go)))
      (only_continued l (branch p.ways.continued go)))
      (only_returned l (branch p.ways.returned go)))

  abbrev pub apart : ℕ → (p q : Mode → S → Pass S) → S → Pass S
  apart l p q s = parted l (p (One left) s) (q (One right))

  -- of a byte-order conditional: the arm of each running side's order
  abbrev pub arm_of : Bool → (p q : Mode → S → Pass S) → Mode → S → Pass S
  arm_of true p q = p
  arm_of false p q = q

  abbrev pub by_order_pass : (Side → Order) → Mode → ℕ → (named : Order) → (p q : Mode → S → Pass S) → S → Pass S
  by_order_pass ord Both l named p q s =
      apart l (arm_of (is_order (ord left) named) p q) (arm_of (is_order (ord right) named) p q) s
  by_order_pass ord (One m) l named p q s = arm_of (is_order (ord m) named) p q (One m) s

  -- ---- turns of a loop, one by one, and a last one

  abbrev pub last_pass : Pass S → Pass S
  last_pass p = passed None p.ways p.log

  -- what follows a turn, which has the ways out so far
  abbrev pub turn_then : Pass S → (S → Ways S → Pass S) → Pass S
  turn_then p go = go_on p.on p.ways p.log go

  abbrev pub unrolled : (turn last : Ways S → S → Pass S) → ℕ → S → Ways S → Pass S
  unrolled turn last zero s w = last_pass (last w s)
  unrolled turn last (suc u) s w = turn_then (turn w s) (unrolled turn last u)

  -- ---- heads that are tried

  -- what comes round stays within the head from which it came
  abbrev pub is_stable : S → Option S → Bool
  is_stable h None = true
  is_stable h (Some s) = o.leq (o.unified h s).1 h

  abbrev pub widen_two : S × S → S
  widen_two q = o.reshared (o.widened q.0 q.1)

  abbrev pub next_head : S → Option S → S
  next_head h None = h
  next_head h (Some s) = widen_two (o.unified h s)

  -- So many heads may be tried; the one after them is the empty state, and its turn is the last.
  abbrev pub settled : (turn : S → Pass S) → ℕ → S → Pass S
  settled turn zero h = from_head o.empty (turn o.empty)
  settled turn (suc k) h =
      if is_stable h (turn h).on then from_head h (turn h)
      else dropped (turn h) (settled turn k (next_head h (turn h).on))

  -- The head of number `limit` is the empty one, and these heads take no numbers.
  abbrev pub tried : (limit : ℕ) → Heads S
  tried limit =
      record { taken = λ hs. 0; settle = λ n l turn s. settled (turn 0) (limit - 1) (o.reshared s) }

  module _ (u : ℕ) where
    -- the tests and turns of one loop
    module _ (l : ℕ) (e : Expr) (body : Mode → S → Pass S) where
      abbrev pub in_body : Mode → S → Pass S
      in_body m s = turn_counted (body m s)

      -- ---- one side's loop

      abbrev pub one_turn : Side → Ways S → S → Pass S
      one_turn m w s =
          tested (so_far w) (One m) e l (in_body (One m)) (λ s. ends []) (λ s. ends []) (jumps broken) s

      -- where the test may still be true, that path ends
      abbrev pub cut_turn : Side → Ways S → S → Pass S
      cut_turn m w s =
          tested (so_far w) (One m) e l (λ s. ends (too_long l)) (λ s. ends []) (λ s. ends []) (jumps broken) s

      -- from the test on
      abbrev pub one_rounds : Side → ℕ → S → Ways S → Pass S
      one_rounds m k s w = unrolled (one_turn m) (cut_turn m) k s w

      -- from the body on: the test was true
      abbrev pub entered : Side → ℕ → S → Pass S
      entered m zero s = ends (too_long l)
      entered m (suc k) s = then_pass (in_body (One m) s) none (one_rounds m k)

      -- ---- a joint loop

      -- the side that goes on alone, with turns of its own
      abbrev pub lone : Side → S → Pass S
      lone m s = comes_after l (entered m u s)

      abbrev pub joint_turn : Ways S → S → Pass S
      joint_turn w s = tested (so_far w) Both e l (in_body Both) (lone left) (lone right) (jumps broken) s

  -- at the end of main, where one is reached, its result is compared
  abbrev pub faults_at_end : Option Function → Option S → List Event
  faults_at_end None u = []
  faults_at_end (Some f) None = []
  faults_at_end (Some f) (Some s) = found_at f.line (o.ended f s)

  module _ (u : ℕ) (heads : Heads S) where
    -- ---- a loop, whose body is gone through so where so many numbers were taken before

    module _ (l : ℕ) (e : Expr) (body : (before : ℕ) → Mode → S → Pass S) where
      abbrev pub turn_at : Ways S → (before : ℕ) → S → Pass S
      turn_at w n s = joint_turn u l e (body n) w s

      abbrev pub last_turns : (before : ℕ) → Ways S → S → Pass S
      last_turns n w s = heads.settle n l (turn_at w) s

      -- turns one by one, and then the last
      abbrev pub joint_rounds : ℕ → (before : ℕ) → S → Ways S → Pass S
      joint_rounds zero n s w = last_pass (last_turns n w s)
      joint_rounds (suc k) n s w = turn_then (turn_at w n s) (joint_rounds k (past heads n (turn_at w n s)))

      -- The first turn of a `do` loop is one of those one by one, and a joint loop makes it in any case.
      abbrev pub loop_pass : (before : ℕ) → Mode → (tests_first : Bool) → S → Pass S
      loop_pass n Both true s = leave_loop (joint_rounds u n s none)
      loop_pass n Both false s =
          leave_loop
          (then_pass (in_body u l e (body n) Both s) none
          (joint_rounds (u - 1) (past heads n (in_body u l e (body n) Both s))))
      loop_pass n (One m) true s = leave_loop (one_rounds u l e (body n) m u s none)
      loop_pass n (One m) false s = leave_loop (entered u l e (body n) m u s)

    module _ (ord : Side → Order) (p : Program) where
      -- ---- statements, in the function of number `here`, where the bodies of the functions before it are gone through
      -- so
      module _ (here : ℕ) (bodies : ℕ → (before : ℕ) → Mode → S → Pass S) where
        abbrev mutual
          pub pass : What → (before : ℕ) → Mode → (line : ℕ) → S → Pass S
          pass (simple w) n m l s =
              simple_pass (way_of w) l (o.simple m (result_in (slice_get p.functions here)) w s)
          pass (call k es d) n m l s = call_pass (callee_of p here k) m es d l (bodies k n m) s
          pass (if_else e a b) n m l s =
              tested (ends []) m e l (λ t. pass_all a n m t none)
              (apart l (λ m s. pass_all a n m s none) (λ m s. pass_all b n m s none))
              (apart l (λ m s. pass_all b n m s none) (λ m s. pass_all a n m s none))
              (λ t. pass_all b (past heads n (branch (agreed m e true s) (λ t. pass_all a n m t none))) m t none) s
          pass (loop first e a b) n m l s =
              loop_pass l e
              (λ n m s.
              next_pass (pass_all a n m s none) (λ t. pass_all b (past heads n (pass_all a n m s none)) m t none))
              n m first s
          pass break_loop n m l s = jumps broken s
          pass continue_loop n m l s = jumps continued s
          pass (by_order named a b) n m l s =
              by_order_pass ord m l named (λ m s. pass_all a n m s none) (λ m s. pass_all b n m s none) s
          pass (scope bs a) n m l s = scope_pass m bs (pass_all a n m (o.enter m bs s) none)

          -- after statements that were left so
          pub pass_all : Stmts → (before : ℕ) → Mode → S → Ways S → Pass S
          pass_all stop n m s w = passed (Some s) w (logged [] 0 [])
          pass_all (more l a rest) n m s w =
              then_pass (pass a n m l s) w (pass_all rest (past heads n (pass a n m l s)) m)

      -- the body of function `here`
      abbrev pub body_pass : Option Function → (here : ℕ) → (bodies : ℕ → (before : ℕ) → Mode → S → Pass S)
          → (before : ℕ) → Mode → S → Pass S
      body_pass None here bodies n m s = jumps on s
      body_pass (Some f) here bodies n m s = pass_all here bodies f.body n m s none

      -- the bodies of the functions before number f
      abbrev pub bodies_pass : (f : ℕ) → ℕ → (before : ℕ) → Mode → S → Pass S
      bodies_pass zero k n = λ m s. jumps on s
      bodies_pass (suc f) k n =
          arm_of (nat_eq k f) (body_pass (slice_get p.functions f) f (bodies_pass f) n) (bodies_pass f k n)

      -- ---- main

      abbrev pub main_pass : Pass S
      main_pass = body_pass (slice_get p.functions p.main) p.main (bodies_pass p.main) 0 Both o.entry

      -- main is left by `return`, then at its end
      abbrev pub all_faults : List Event
      all_faults =
          main_pass.log.faults
          ++ faults_at_end (slice_get p.functions p.main) (join_on main_pass.ways.returned main_pass.on)

  -- ---- what the analysis reports of a program, how often it goes through bodies of loops, and the heads that it keeps

  module _ (u limit : ℕ) (ord : Side → Order) (p : Program) where
    abbrev pub report_of : List Alarm
    report_of = gathered (map alarm_of (all_faults u (tried limit) ord p))

    abbrev pub turns_of : ℕ
    turns_of = (main_pass u (tried limit) ord p).log.count

    abbrev pub heads_of : List S
    heads_of = (main_pass u (tried limit) ord p).log.heads
