-- The pieces of a pass, each with its statements as plain arguments. This project's words.
use Rattle.std.specs.Prelude.{ℕ, ◌+◌, ◌-◌, Bool, true, false, [], Option, slice_get}
use Rattle.ep_core.specs.Program.{Expr, What, Stmts, Function, Program}
use Rattle.ep_int.specs.declared.types.Order.{Order}
use Rattle.ep_core.specs.Exec.{broken, frame_of}
use Rattle.ep_core.specs.Runs.{Side, left, right}
use Rattle.ep_core.specs.View.{expr_view, stmts_view}
use Rattle.ep_pass.specs.States.{Mode, Both, One, StateOps}
use Rattle.ep_pass.specs.Pass.{Ways, none, Pass, ends, so_far, jumps, too_long, then_pass, tested, apart, next_pass}
use Rattle.ep_pass.specs.Pass.{Heads, unrolled, in_body, one_turn, cut_turn, lone, joint_turn, settled, tried, entered}
use Rattle.ep_pass.specs.Pass.{loop_pass, leave_call, scope_pass, pass, pass_all, body_pass, bodies_pass}
use Rattle.ep_flows.specs.View.{Plan}
use Rattle.ep_walk_parts.specs.declared.follow.Parts.{Parts}
use Rattle.ep_walk_parts.specs.declared.follow.Follow as declared
use Rattle.ep_walk_parts.specs.declared.follow.Follow.TheVariants.{Arms, Turn, Cut}

-- the parts of a loop
pub record Loop : Type 0 where
  pub line : ℕ
  pub test : Expr
  pub body : Stmts
  pub next : Stmts

abbrev pub loop_of : Parts → Loop
loop_of l = record {
  line = l.line;
  test = expr_view l.test.now;
  body = stmts_view l.body.now;
  next = stmts_view
      l.next.now;
}

-- what follows a test: the arms of an `if`, a turn of a loop, or the end of one side's turns
pub data Followed : Type 0 where
  arms : (line : ℕ) → (yes no : Stmts) → Followed
  turns : Loop → Followed
  cut : (line : ℕ) → Followed

abbrev pub followed_of : declared.Follow → Followed
followed_of (Arms l a b) = arms l (stmts_view a.now) (stmts_view b.now)
followed_of (Turn l) = turns (loop_of l)
followed_of (Cut l) = cut l

module _ {S : Type 0} (ops : Program → (Side → Order) → StateOps S) (c : Plan) where
  abbrev pub o : StateOps S
  o = ops c.program c.order

  -- heads are tried, which take no numbers: each pass is at number 0
  abbrev pub heads : Heads S
  heads = tried o c.limit

  -- the bodies of the functions before number n
  abbrev pub bodies : (n : ℕ) → ℕ → (before : ℕ) → Mode → S → Pass S
  bodies n = bodies_pass o c.unroll heads c.order c.program n

  -- the body of the function of this number
  abbrev pub function : ℕ → Mode → S → Pass S
  function k = body_pass o c.unroll heads c.order c.program (slice_get c.program.functions k) k (bodies k) 0

  -- where a function is left
  abbrev pub left_of : Mode → Function → Pass S → Option S
  left_of m f p = (leave_call o (scope_pass o m (frame_of f) p)).on

  -- in the function of number `here`
  module _ (here : ℕ) where
    abbrev pub one : What → Mode → (line : ℕ) → S → Pass S
    one w = pass o c.unroll heads c.order c.program here (bodies here) w 0

    abbrev pub all : Stmts → Mode → S → Ways S → Pass S
    all ss = pass_all o c.unroll heads c.order c.program here (bodies here) ss 0

    abbrev pub row : Stmts → Mode → S → Pass S
    row a m s = all a m s none

    module _ (l : Loop) where
      abbrev pub body_at : (before : ℕ) → Mode → S → Pass S
      body_at n m s =
          next_pass o (pass_all o c.unroll heads c.order c.program here (bodies here) l.body n m s none)
          (λ t. pass_all o c.unroll heads c.order c.program here (bodies here) l.next (n + 0) m t none)

      abbrev pub body_of : Mode → S → Pass S
      body_of m s = next_pass o (row l.body m s) (λ s. row l.next m s)

      -- its body is entered
      abbrev pub turned : Mode → S → Pass S
      turned m s = in_body o c.unroll l.line l.test body_of m s

      -- a turn, from its test on, with the ways out so far
      abbrev pub turn_of : Mode → Ways S → S → Pass S
      turn_of Both w s = joint_turn o c.unroll l.line l.test body_of w s
      turn_of (One m) w s = one_turn o c.unroll l.line l.test body_of m w s

      abbrev pub settled_of : Ways S → ℕ → S → Pass S
      settled_of w k h = settled o (turn_of Both w) k h

      -- what comes after the turns that are unrolled
      abbrev pub last_of : Mode → Ways S → S → Pass S
      last_of Both w s = settled_of w (c.limit - 1) (o.reshared s)
      last_of (One m) w s = cut_turn o c.unroll l.line l.test body_of m w s

      abbrev pub rounds_of : Mode → ℕ → S → Ways S → Pass S
      rounds_of m k s w = unrolled o (turn_of m) (last_of m) k s w

      -- from the body on
      abbrev pub begun_of : Mode → ℕ → S → Pass S
      begun_of m k s = then_pass o (turned m s) none (rounds_of m k)

      abbrev pub entered_of : Side → ℕ → S → Pass S
      entered_of m k s = entered o c.unroll l.line l.test body_of m k s

      abbrev pub loop_pass_of : Mode → (tests_first : Bool) → S → Pass S
      loop_pass_of m first s = loop_pass o c.unroll heads l.line l.test body_at 0 m first s

      abbrev pub alone_of : Mode → Side → S → Pass S
      alone_of Both m s = lone o c.unroll l.line l.test body_of m s
      alone_of (One k) m s = ends []

    -- with these truths on the sides
    abbrev pub followed : Followed → Mode → (on_left on_right : Bool) → S → Pass S
    followed (arms l a b) m true true s = row a m s
    followed (arms l a b) m true false s = apart o l (λ m s. row a m s) (λ m s. row b m s) s
    followed (arms l a b) m false true s = apart o l (λ m s. row b m s) (λ m s. row a m s) s
    followed (arms l a b) m false false s = row b m s
    followed (turns l) m true true s = turned l m s
    followed (turns l) m true false s = alone_of l m left s
    followed (turns l) m false true s = alone_of l m right s
    followed (turns l) m false false s = jumps broken s
    followed (cut l) m true true s = ends (too_long l)
    followed (cut l) m true false s = ends []
    followed (cut l) m false true s = ends []
    followed (cut l) m false false s = jumps broken s

    abbrev pub tested_of : Followed → Mode → Expr → (line : ℕ) → Ways S → S → Pass S
    tested_of fw m e l w s =
        tested o (so_far w) m e l (followed fw m true true) (followed fw m true false) (followed fw m false true)
        (followed fw m false false) s
