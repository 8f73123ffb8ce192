-- The pieces of a pass with heads that are given, each with its statements as plain arguments, where so many heads were
-- taken before. Where the sides go different ways no head is taken, and the number doesn't matter: there it is 0. This
-- project's words.
use Rattle.std.specs.Prelude.{◌≡◌, ◌<◌, ◌≤◌, ℕ, Bool, true, false, List, [], length, Option, slice_get, Result, Ok, Err}
use Rattle.ep_core.specs.Program.{Expr, What, Stmts}
use Rattle.ep_core.specs.Exec.{Way, on, broken, continued, returned}
use Rattle.ep_core.specs.Runs.{Side, left, right}
use Rattle.ep_pass.specs.States.{Mode, Both, One}
use Rattle.ep_pass.specs.Pass.{Ways, none, Pass, ends, so_far, jumps, branch, too_long, then_pass, tested, apart}
use Rattle.ep_pass.specs.Pass.{next_pass, Heads, past, in_body, one_turn, cut_turn, lone, joint_turn, one_rounds}
use Rattle.ep_pass.specs.Pass.{entered, joint_rounds, last_turns, last_pass, loop_pass, pass, pass_all, body_pass}
use Rattle.ep_pass.specs.Pass.{Event, main_pass, all_faults, faults_at_end, bodies_pass, only_on, only_broken}
use Rattle.ep_pass.specs.Pass.{only_continued, only_returned, either_pass}
use Rattle.ep_walk_parts.specs.Pieces.{Loop, Followed, arms, turns, cut}
use Rattle.ep_certcheck_laws.specs.Checked.{given}
use Rattle.ep_certcheck_walk.specs.declared.found.Found.{Found}
use Rattle.ep_certcheck_walk.specs.declared.found.Found.TheVariants.{Yes, Fault, Outside, Missing, Spare}
use Rattle.ep_certcheck_walk.specs.declared.stop.Stop.{Stop}
use Rattle.ep_certcheck_walk.specs.Stops.{Course, checking, IsStop}

-- what is kept of a pass where the sides go different ways
abbrev pub only : {S : Type 0} → Way → (line : ℕ) → Pass S → Pass S
only on l p = only_on l p
only broken l p = only_broken l p
only continued l p = only_continued l p
only returned l p = only_returned l p

module _ {S : Type 0} (k : Course S) where
  abbrev pub heads : Heads S
  heads = given (checking k) k.fails k.list

  -- the bodies of the functions before number f
  abbrev pub bodies : (f : ℕ) → ℕ → (n : ℕ) → Mode → S → Pass S
  bodies f = bodies_pass (checking k) k.plan.unroll heads k.plan.order k.plan.program f

  -- the body of the function of this number
  abbrev pub function : ℕ → (n : ℕ) → Mode → S → Pass S
  function f n =
      body_pass (checking k) k.plan.unroll heads k.plan.order k.plan.program
      (slice_get k.plan.program.functions f) f (bodies f) n

  -- where a test has these truths on the running sides
  abbrev pub reached : Mode → Expr → (on_left on_right : Bool) → S → Option S
  reached Both e a b s = k.raw.assume e a b s
  reached (One m) e a b s = k.raw.assume_one m e a s

  -- in the function of number `here`
  module _ (here : ℕ) where
    abbrev pub one : What → (n : ℕ) → Mode → (line : ℕ) → S → Pass S
    one w n = pass (checking k) k.plan.unroll heads k.plan.order k.plan.program here (bodies here) w n

    abbrev pub all : Stmts → (n : ℕ) → Mode → S → Ways S → Pass S
    all ss n = pass_all (checking k) k.plan.unroll heads k.plan.order k.plan.program here (bodies here) ss n

    abbrev pub row : Stmts → (n : ℕ) → Mode → S → Pass S
    row a n m s = all a n m s none

    -- the right side goes through statements from one way out of the left's, after what came before
    abbrev pub right_from : Stmts → Way → (line : ℕ) → Option S → Pass S → Pass S
    right_from a w l v p = either_pass (checking k) p (only w l (branch v (λ s. row a 0 (One right) s)))

    abbrev pub parted_arms : (line : ℕ) → Stmts → Stmts → S → Pass S
    parted_arms l a b s = apart (checking k) l (λ m s. row a 0 m s) (λ m s. row b 0 m s) s

    module _ (l : Loop) where
      abbrev pub body_at : (n : ℕ) → Mode → S → Pass S
      body_at n m s = next_pass (checking k) (row l.body n m s) (λ t. row l.next (past heads n (row l.body n m s)) m t)

      -- its body is entered
      abbrev pub turned : (n : ℕ) → Mode → S → Pass S
      turned n m s = in_body (checking k) k.plan.unroll l.line l.test (body_at n) m s

      -- a turn, from its test on, with the ways out so far
      abbrev pub turn_of : (n : ℕ) → Mode → Ways S → S → Pass S
      turn_of n Both w s = joint_turn (checking k) k.plan.unroll l.line l.test (body_at n) w s
      turn_of n (One m) w s = one_turn (checking k) k.plan.unroll l.line l.test (body_at n) m w s

      -- from a head
      abbrev pub settled_at : (n : ℕ) → Ways S → S → Pass S
      settled_at n w s = last_turns (checking k) k.plan.unroll heads l.line l.test body_at n w s

      -- what comes after the turns that are unrolled
      abbrev pub last_of : (n : ℕ) → Mode → Ways S → S → Pass S
      last_of n Both w s = last_pass (checking k) (settled_at n w s)
      last_of n (One m) w s =
          last_pass (checking k) (cut_turn (checking k) k.plan.unroll l.line l.test (body_at n) m w s)

      abbrev pub settled_last : (n : ℕ) → Ways S → S → Pass S
      settled_last n w s = last_pass (checking k) (settled_at n w s)

      abbrev pub rounds_of : Mode → ℕ → (n : ℕ) → S → Ways S → Pass S
      rounds_of Both j n s w = joint_rounds (checking k) k.plan.unroll heads l.line l.test body_at j n s w
      rounds_of (One m) j n s w = one_rounds (checking k) k.plan.unroll l.line l.test (body_at n) m j s w

      -- from the body on
      abbrev pub begun_of : (n : ℕ) → Mode → ℕ → S → Pass S
      begun_of n m j s =
          then_pass (checking k) (turned n m s) none (rounds_of m j (past heads n (turned n m s)))

      abbrev pub entered_of : (n : ℕ) → Side → ℕ → S → Pass S
      entered_of n m j s = entered (checking k) k.plan.unroll l.line l.test (body_at n) m j s

      abbrev pub loop_pass_of : (n : ℕ) → Mode → (tests_first : Bool) → S → Pass S
      loop_pass_of n m first s = loop_pass (checking k) k.plan.unroll heads l.line l.test body_at n m first s

      abbrev pub alone_of : Mode → Side → S → Pass S
      alone_of Both m s = lone (checking k) k.plan.unroll l.line l.test (body_at 0) m s
      alone_of (One i) m s = ends []

    -- with these truths on the sides
    abbrev pub followed : Followed → (n : ℕ) → Mode → (on_left on_right : Bool) → S → Pass S
    followed (arms l a b) n m true true s = row a n m s
    followed (arms l a b) n m true false s = parted_arms l a b s
    followed (arms l a b) n m false true s = parted_arms l b a s
    followed (arms l a b) n m false false s = row b n m s
    followed (turns l) n m true true s = turned l n m s
    followed (turns l) n m true false s = alone_of l m left s
    followed (turns l) n m false true s = alone_of l m right s
    followed (turns l) n m false false s = jumps broken s
    followed (cut l) n m true true s = ends (too_long l)
    followed (cut l) n m true false s = ends []
    followed (cut l) n m false true s = ends []
    followed (cut l) n m false false s = jumps broken s

    -- these truths, after what came before
    abbrev pub follows : Followed → (n : ℕ) → Mode → Expr → (on_left on_right : Bool) → S → Pass S
        → Pass S
    follows fw n m e a b s p =
        either_pass (checking k) p (branch (reached m e a b s) (followed fw n m a b))

    -- the number where both are false: heads are taken where both are true
    abbrev pub late : Followed → (n : ℕ) → Mode → Expr → S → ℕ
    late fw n m e s = past heads n (branch (reached m e true true s) (followed fw n m true true))

    -- both truths, or one
    abbrev pub two_of : Followed → (n : ℕ) → Mode → Expr → S → Pass S → Pass S
    two_of fw n m e s p =
        follows fw (late fw n m e s) m e false false s (follows fw n m e true true s p)

    -- maybe different truths
    abbrev pub four_of : Followed → (n : ℕ) → Expr → S → Pass S → Pass S
    four_of fw n e s p =
        follows fw (late fw n Both e s) Both e false false s
        (follows fw n Both e false true s (follows fw n Both e true false s (follows fw n Both e true true s p)))

    abbrev pub tested_of : Followed → (n : ℕ) → Mode → Expr → (line : ℕ) → Ways S → S → Pass S
    tested_of fw n m e l w s =
        tested (checking k) (so_far w) m e l (followed fw n m true true) (followed fw n m true false)
        (followed fw n m false true) (followed fw (late fw n m e s) m false false) s

  -- ---- main

  abbrev pub main_of : Pass S
  main_of = main_pass (checking k) k.plan.unroll heads k.plan.order k.plan.program

  -- the faults at the end of main, where this state is reached
  abbrev pub end_of : Option S → List Event
  end_of v = faults_at_end (checking k) (slice_get k.plan.program.functions k.plan.program.main) v

  -- in main, with its end
  abbrev pub all_of : List Event
  all_of = all_faults (checking k) k.plan.unroll heads k.plan.order k.plan.program

  -- nothing is found, and so many heads are taken, or the first event stops
  abbrev pub FindsAll : Result Unit Stop → (taken : ℕ) → Type 0
  FindsAll (Ok u) n = (all_of ≡ []) × ((n ≡ length main_of.log.heads) × (n ≤ length k.list))
  FindsAll (Err s) n = IsStop k all_of s

-- it says that all heads were taken, or of so many that fewer were
abbrev pub IsAtEnd : (given : ℕ) → Found → Type 0
IsAtEnd m Yes = Unit {0}
IsAtEnd m (Fault l a) = ⊥
IsAtEnd m (Outside h n) = ⊥
IsAtEnd m (Missing l) = ⊥
IsAtEnd m (Spare n) = n < m
