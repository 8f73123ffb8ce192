-- What an analysis does with the states that it keeps. Each state stands for some pairs of memories of two machines, as
-- in abstract interpretation (Cousot and Cousot 1977); what it is made of is left open here.
use Rattle.std.specs.Prelude.{ℕ, ℤ, Bool, List, Option}
use Rattle.ep_int.specs.declared.types.Scalar.{Scalar}
use Rattle.ep_alarms.specs.declared.types.AlarmKind.{AlarmKind}
use Rattle.ep_core.specs.Program.{Expr, Dest, Simple, Function}
use Rattle.ep_core.specs.Runs.{Side}

-- both machines run, or one while the other stands still
pub data Mode : Type 0 where
  Both : Mode
  One : Side → Mode

-- what may go wrong, and the least and the greatest number that is shown of it on each side
pub record Fault : Type 0 where
  pub kind : AlarmKind
  pub left : ℤ × ℤ
  pub right : ℤ × ℤ

-- the faults of what is done, and the state after it, where each running side goes on
pub record Transfer (S : Type 0) : Type 0 where
  pub faults : List Fault
  pub next : Option S

-- of a test: a running side has no value, or the running sides surely have one truth, or maybe different ones
pub data Verdict : Type 0 where
  stuck : Verdict
  same : Verdict
  differs : Verdict

pub record Tested : Type 0 where
  pub faults : List Fault
  pub verdict : Verdict

-- the operations on the states that are kept of a program
pub record StateOps (S : Type 0) : Type 0 where
  -- at the beginning of main
  pub entry : S
  -- a statement without statements in it, in a function with this result
  pub simple : Mode → (result : Option (ℕ × Scalar)) → Simple → S → Transfer S
  -- a test: its faults, and what is known of its truths
  pub test : Mode → Expr → S → Tested
  -- where both sides run and a test has this truth on the left, and this one on the right
  pub assume : Expr → (on_left on_right : Bool) → S → Option S
  -- where one side runs and its test has this truth
  pub assume_one : Side → Expr → Bool → S → Option S
  -- of a call of a function: its result is entered, the arguments are evaluated, and its parameters and locals are
  -- entered and set; and when its body is left, its result goes to its place
  pub arguments : Mode → Function → List Expr → S → Transfer S
  pub result : Mode → Function → Option Dest → S → Transfer S
  -- blocks that are entered, and left
  pub enter : Mode → (blocks : List ℕ) → S → S
  pub leave : Mode → (blocks : List ℕ) → S → S
  -- two states brought to one shape
  pub unified : S → S → S × S
  -- of two that have one shape: all that either stands for; the same and more, so that what is widened soon stays
  pub joined : S → S → S
  pub widened : S → S → S
  -- whether the second surely stands for all that the first does
  pub leq : S → S → Bool
  -- the same, told of both sides together where they surely are equal
  pub reshared : S → S
  -- it stands for all memories
  pub empty : S
  -- the faults at the end of main, where its result is compared
  pub ended : Function → S → List Fault
