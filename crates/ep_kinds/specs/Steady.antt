-- Which closed programs end alike on two machines, with no more than so many turns of each loop. The rules are this
-- project's.
use Rattle.std.specs.Prelude.{◌≡◌, ◌⊎◌, ℕ, zero, suc, Bool, true, false, ◌&&◌, ◌||◌, not, nat_eq, List, [], slice_get}
use Rattle.std.specs.Prelude.{Option, Some, None}
use Rattle.ep_int.specs.declared.types.Order.{Order}
use Rattle.ep_int.specs.Memory.{Memory, Found}
use Rattle.ep_core.specs.Program.{What, simple, call, if_else, loop, break_loop, continue_loop, by_order, scope}
use Rattle.ep_core.specs.Program.{Stmts, stop, more, Function, Program}
use Rattle.ep_core.specs.Exec.{on, broken, continued, leaves, running, Going, counted, step, given, turned, is_true}
use Rattle.ep_core.specs.Exec.{and_then, either, scope_left, is_order, chosen, arm_left, result_in, callee_of}
use Rattle.ep_core.specs.Exec.{without, value, does, call_of}
use Rattle.ep_core.specs.Runs.{Run, run, ended, main_function, start, finished}
use Rattle.ep_core.specs.Ways.{ways_of_all}
use Rattle.ep_pass.specs.Places.{may_differ}
use Rattle.ep_kinds.specs.InOut.{is_talk, some_comes_to, bodies_come_to}
use Rattle.ep_kinds.specs.Closed.{each_function, is_closed_text}

-- ---- runs by steps, stopped also where a visit of a loop would begin one turn more than so many

module _ (test : Memory → Found) (l : ℕ) (body next : Going) where
  abbrev pub cut_turns : ℕ → Going
  cut_turns zero n s = running s
  cut_turns (suc k) n s =
      step counted n s
      (λ n. turned (body n s) next
      (λ n s. given (test s.memory) l s (λ v. either (is_true v) (cut_turns k) (leaves on) n s)))

  abbrev pub cut_tests : ℕ → Going
  cut_tests k n s = given (test s.memory) l s (λ v. either (is_true v) (cut_turns k) (leaves on) n s)

  abbrev pub cut_visit : (tests_first : Bool) → ℕ → Going
  cut_visit true k = cut_tests k
  cut_visit false k = cut_turns k

module _ (o : Order) (p : Program) (u : ℕ) where
  module _ (here : ℕ) (bodies : ℕ → Going) where
    abbrev mutual
      pub exec_cut : What → (line : ℕ) → Going
      exec_cut (simple w) l n s = step counted n s (λ n. does o p counted (result_in
          (slice_get p.functions here)) w l n s)
      exec_cut (call k es d) l n s = step counted n s (λ n. call_of o p (callee_of p here k) (bodies k) es d l n s)
      exec_cut (if_else e a b) l n s =
          step counted n s
          (λ n. given (value o p e s.memory) l s (λ v. either (is_true v) (all_cut a) (all_cut b) n s))
      exec_cut (loop first e a b) l n s =
          step counted n s (λ n. cut_visit (value o p e) l (all_cut a) (all_cut b) first u n s)
      exec_cut break_loop l n s = step counted n s (λ n. leaves broken n s)
      exec_cut continue_loop l n s = step counted n s (λ n. leaves continued n s)
      exec_cut (by_order named a b) l n s =
          step counted n s (λ n. arm_left s.joint_tests (chosen (is_order o named) (all_cut a) (all_cut b) n s))
      exec_cut (scope bs a) l n s = scope_left bs (all_cut a n (without bs s))

      pub all_cut : Stmts → Going
      all_cut stop n s = leaves on n s
      all_cut (more l w rest) n s = and_then (exec_cut w l n s) (all_cut rest)

  abbrev pub body_cut : Option Function → (here : ℕ) → (bodies : ℕ → Going) → Going
  body_cut None here bodies = leaves on
  body_cut (Some f) here bodies = all_cut here bodies f.body

  abbrev pub bodies_cut : (n : ℕ) → ℕ → Going
  bodies_cut zero k = leaves on
  bodies_cut (suc n) k = chosen (nat_eq k n) (body_cut (slice_get p.functions n) n (bodies_cut n)) (bodies_cut n k)

  abbrev pub run_cut : (inputs : List ℕ) → (steps : ℕ) → Run
  run_cut inputs n =
      finished o p (body_cut (main_function o p) p.main (bodies_cut p.main) n (start o p inputs))

-- No visit of a loop takes more than u turns, the first one of a `do` loop counted: to stop where one would is to
-- change nothing, however many steps there are.
abbrev pub TakesTurns : Program → Order → (u : ℕ) → (inputs : List ℕ) → Type 0
TakesTurns p o u inputs = (n : ℕ) → run_cut o p u inputs n ≡ run p o inputs n

-- A program without inputs, on two machines: it is closed by its text, and no visit of a loop takes more than u turns.
pub record IsClosed (p : Program) (a b : Order) (u : ℕ) : Type 0 where
  pub text : is_closed_text p ≡ true
  pub left_turns : TakesTurns p a u []
  pub right_turns : TakesTurns p b u []

-- ---- quiet programs: where the machines may part, neither takes or puts out anything, and both come back by one way

-- where this tells which functions before come to an input or output
module _ (bodies : ℕ → Bool) where
  -- two arms that come to no input or output, and of which no way out of one differs from one of the other
  abbrev pub are_quiet_arms : Stmts → Stmts → Bool
  are_quiet_arms a b =
      not (some_comes_to is_talk bodies a || some_comes_to is_talk bodies b)
      && not (may_differ (ways_of_all a) (ways_of_all b))

  -- of loops: they come to no input or output, and their bodies aren't left by `return`
  abbrev mutual
    pub is_quiet_what : What → Bool
    is_quiet_what (simple w) = true
    is_quiet_what (call k es d) = true
    is_quiet_what (if_else e a b) = are_quiet_arms a b && (are_quiet a && are_quiet b)
    is_quiet_what (loop first e a b) =
        not (some_comes_to is_talk bodies a || some_comes_to is_talk bodies b)
        && (not (ways_of_all a).by_return && (are_quiet a && are_quiet b))
    is_quiet_what break_loop = true
    is_quiet_what continue_loop = true
    is_quiet_what (by_order named a b) = are_quiet_arms a b && (are_quiet a && are_quiet b)
    is_quiet_what (scope bs a) = are_quiet a

    pub are_quiet : Stmts → Bool
    are_quiet stop = true
    are_quiet (more l w rest) = is_quiet_what w && are_quiet rest

abbrev pub is_quiet : Program → Bool
is_quiet p = each_function (λ n f. are_quiet (bodies_come_to is_talk p n) f.body) 0 p.functions

-- ---- steady programs

-- Both machines end, with equal outputs, and besides with equal joint tests, unless the program is quiet.
pub record EndsSteadily (p : Program) (a b : Order) (inputs : List ℕ) : Type 0 where
  pub n : ℕ
  pub m : ℕ
  pub left_over : (run p a inputs n).ending ≡ ended
  pub right_over : (run p b inputs m).ending ≡ ended
  pub outputs : (run p a inputs n).outputs ≡ (run p b inputs m).outputs
  pub tests : ((run p a inputs n).joint_tests ≡ (run p b inputs m).joint_tests) ⊎ (is_quiet p ≡ true)

abbrev pub IsSteady : Program → (a b : Order) → Type 0
IsSteady p a b = EndsSteadily p a b []
