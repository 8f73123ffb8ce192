-- Runs in which no visit of a loop makes more turns than a bound; the first turn of a `do` loop is one. Where a visit
-- would begin one more, the run is stopped.
use Rattle.std.specs.Prelude.{ℕ, zero, suc, Bool, true, false, nat_eq, List, slice_get, Option, Some, None}
use Rattle.ep_int.specs.declared.types.Order.{Order}
use Rattle.ep_int.specs.Memory.{Memory, Found}
use Rattle.ep_core.specs.Program.{What, simple, call, if_else, loop, break_loop, continue_loop, by_order, scope}
use Rattle.ep_core.specs.Program.{Stmts, stop, more, Function, Program}
use Rattle.ep_core.specs.Exec.{on, broken, continued, Outcome, leaves, running, Going, given, uncounted, and_then}
use Rattle.ep_core.specs.Exec.{is_true, either, scope_left, is_order, chosen, arm_left, result_in, callee_of, without}
use Rattle.ep_core.specs.Exec.{value, does, call_of}
use Rattle.ep_core.specs.Runs.{Run, main_function, start, finished}
use Rattle.ep_pass.proofs.Outcomes.{with_next, loop_left}

module _ (test : Memory → Found) (l : ℕ) (turn : Going) where
  -- from a turn on, with so many turns left
  abbrev pub turns_from : ℕ → Going
  turns_from zero n s = running s
  turns_from (suc k) n s =
      and_then (turn n s)
      (λ n s. given (test s.memory) l s (λ v. either (is_true v) (turns_from k) (leaves broken) n s))

  -- from a test on
  abbrev pub tests_from : ℕ → Going
  tests_from k n s = given (test s.memory) l s (λ v. either (is_true v) (turns_from k) (leaves broken) n s)

  abbrev pub visit : (tests_first : Bool) → ℕ → Going
  visit true k = tests_from k
  visit false k = turns_from k

module _ (o : Order) (p : Program) (u : ℕ) where
  module _ (here : ℕ) (bodies : ℕ → Going) where
    abbrev mutual
      pub exec_in : What → (line : ℕ) → Going
      exec_in (simple w) l n s = does o p uncounted (result_in (slice_get p.functions here)) w l n s
      exec_in (call k es d) l n s = call_of o p (callee_of p here k) (bodies k) es d l n s
      exec_in (if_else e a b) l n s =
          given (value o p e s.memory) l s (λ v. either (is_true v) (all_in a) (all_in b) n s)
      exec_in (loop first e a b) l n s =
          loop_left (visit (value o p e) l (with_next (all_in a) (all_in b)) first u n s)
      exec_in break_loop l n s = leaves broken n s
      exec_in continue_loop l n s = leaves continued n s
      exec_in (by_order named a b) l n s = arm_left s.joint_tests (chosen (is_order o named) (all_in a) (all_in b) n s)
      exec_in (scope bs a) l n s = scope_left bs (all_in a n (without bs s))

      pub all_in : Stmts → Going
      all_in stop n s = leaves on n s
      all_in (more l w rest) n s = and_then (exec_in w l n s) (all_in rest)

  abbrev pub body_in : Option Function → (here : ℕ) → (bodies : ℕ → Going) → Going
  body_in None here bodies = leaves on
  body_in (Some f) here bodies = all_in here bodies f.body

  abbrev pub bodies_in : (n : ℕ) → ℕ → Going
  bodies_in zero k = leaves on
  bodies_in (suc n) k = chosen (nat_eq k n) (body_in (slice_get p.functions n) n (bodies_in n)) (bodies_in n k)

  -- what the body of main comes to, and its run
  abbrev pub main_in : (inputs : List ℕ) → Outcome
  main_in inputs = body_in (main_function o p) p.main (bodies_in p.main) u (start o p inputs)

  abbrev pub run_in : (inputs : List ℕ) → Run
  run_in inputs = finished o p (main_in inputs)
