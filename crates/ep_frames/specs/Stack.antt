-- What a stack of frames means.
use Rattle.std.specs.Prelude.{◌≡◌, ℕ, ◌+◌, ◌<◌, ◌≤◌, ◌^◌, Bool, true, false, List, [], ◌∷◌, ◌++◌, length, take}
use Rattle.std.specs.Prelude.{slice_get, Option, None}
use Rattle.std.specs.Option.{option_map}
use Rattle.ep_int.specs.declared.types.Scalar.{Scalar}
use Rattle.ep_int.specs.Memory.{Memory}
use Rattle.ep_core.specs.declared.tree.Stmt.{Stmt}
use Rattle.ep_core.specs.Program.{Simple, What, simple, call, if_else, loop, break_loop, continue_loop, by_order, scope}
use Rattle.ep_core.specs.Exec.{State, Way, on, broken, continued, returned, Outcome, leaves, running, no_input}
use Rattle.ep_core.specs.Exec.{undefined_at, Going, counted, and_then, bytewise, turned, turn, around, scope_left}
use Rattle.ep_core.specs.Exec.{code_of_way, result_in, out_of, into, does, called, exec, exec_all, bodies}
use Rattle.ep_core.specs.Typed.{MemoryFits, OperandsFit, ReceivedFits, SimpleOperandsFit, WhatOperandsFit}
use Rattle.ep_core.specs.Typed.{AllOperandsFit}
use Rattle.ep_core.specs.View.{expr_view, what_view, stmts_view, function_view, dest_view}
use Rattle.ep_machine.specs.declared.setting.Setting.{Setting}
use Rattle.ep_machine.specs.Faults.{kind_of}
use Rattle.ep_machine.specs.Settings.{program_in, size_on, value_on}
use Rattle.ep_frames.specs.declared.frames.Way as way
use Rattle.ep_frames.specs.declared.frames.Way.TheVariants.{On, Broken, Continued, Returned}
use Rattle.ep_frames.specs.declared.frames.Bytes.{Bytes}
use Rattle.ep_frames.specs.declared.frames.Round.{Round}
use Rattle.ep_frames.specs.declared.frames.Frame.{Frame}
use Rattle.ep_frames.specs.declared.frames.Frame.TheVariants.{Rest, Turn, Again, Scope, Arm, Call}
use Rattle.ep_frames.specs.declared.frames.Now.{Now}
use Rattle.ep_frames.specs.declared.frames.Now.TheVariants as now

abbrev pub way_of : way.Way → Way
way_of On = on
way_of Broken = broken
way_of Continued = continued
way_of Returned = returned

-- An arm is left, before which so many joint tests were listed.
abbrev pub arm_ends : (count : ℕ) → Outcome → Outcome
arm_ends n (leaves w left s) =
    leaves w left (record s {
      tests = s.tests ++ code_of_way w ∷ [];
      joint_tests = take n s.joint_tests ++ code_of_way w ∷ [];
    })
arm_ends n (running s) = running (record s { joint_tests = take n s.joint_tests })
arm_ends n (no_input s) = no_input (record s { joint_tests = take n s.joint_tests })
arm_ends n (undefined_at l k s) = undefined_at l k (record s { joint_tests = take n s.joint_tests })

-- a statement takes a step
abbrev pub takes_step : What → Bool
takes_step (simple w) = true
takes_step (call k es d) = true
takes_step (if_else e a b) = true
takes_step (loop first e a b) = true
takes_step break_loop = true
takes_step continue_loop = true
takes_step (by_order named a b) = true
takes_step (scope bs a) = false

-- ---- meanings

module _ (m : Setting) where
  abbrev pub result_at : (here : ℕ) → Option (ℕ × Scalar)
  result_at here = result_in (slice_get (program_in m).functions here)

  -- a statement without statements in it, which does the same in every function; its operands fit
  abbrev pub plainly : Simple → (line : ℕ) → Going
  plainly w l = does m.order (program_in m) counted None w l

  abbrev pub PlainFits : Memory → Simple → Type 0
  PlainFits x w = SimpleOperandsFit m.order (program_in m) x None w

  -- a statement, and a list, in function `here`
  abbrev pub one_of : (here : ℕ) → What → (line : ℕ) → Going
  one_of here w l = exec m.order (program_in m) counted here (bodies m.order (program_in m) counted here) w l

  abbrev pub list_of : (here : ℕ) → List Stmt → Going
  list_of here ss =
      exec_all m.order (program_in m) counted here (bodies m.order (program_in m) counted here) (stmts_view ss)

  abbrev pub again_of : Round → Going
  again_of r =
      around (value_on m (expr_view r.test.now)) r.line (list_of r.here r.body.now) (list_of r.here r.next.now)

  abbrev pub turn_of : Round → Going
  turn_of r = turn counted (list_of r.here r.body.now) (list_of r.here r.next.now) (again_of r)

  abbrev pub reads_of : Bytes → Going
  reads_of x = bytewise counted (into m.order (program_in m) x.block) x.count x.here

  abbrev pub writes_of : Bytes → (line : ℕ) → Going
  writes_of x l = bytewise counted (out_of m.order (program_in m) x.block l) x.count x.here

  abbrev pub framed : Frame → Outcome → Outcome
  framed (Rest here ss) x = and_then x (list_of here ss.now)
  framed (Turn r) x = turned x (list_of r.here r.next.now) (again_of r)
  framed (Again r) x = and_then x (again_of r)
  framed (Scope bs) x = scope_left bs.now x
  framed (Arm n) x = arm_ends n x
  framed (Call f d l) x = called m.order (program_in m) (function_view f.now) (option_map dest_view d.now) l x

  -- the outermost frame stands first
  abbrev pub piled : List Frame → Outcome → Outcome
  piled [] x = x
  piled (f ∷ fs) x = framed f (piled fs x)

  abbrev pub now_of : Now → Going
  now_of (now.List here ss) = list_of here ss.now
  now_of (now.Statement here s) = one_of here (what_view s.now.what) s.now.line
  now_of (now.Turn r) = turn_of r
  now_of (now.Reads x) = reads_of x
  now_of (now.Writes x l) = writes_of x l
  now_of (now.Leave w) = leaves (way_of w)
  now_of now.Starve = λ left s. no_input s
  now_of (now.Faulty l k) = λ left s. undefined_at l (kind_of k) s

  -- what is done now and then, however many steps are left, is what x says
  abbrev pub ComesTo : List Frame → Now → State → (ℕ → Outcome) → Type 0
  ComesTo fs n s x = (left : ℕ) → piled fs (now_of n left s) ≡ x left

  -- ---- operands fit, in each memory that fits

  abbrev pub InEach : (Memory → Type 0) → Type 0
  InEach P = (x : Memory) → MemoryFits (program_in m) x → P x

  abbrev pub OneFits : (here : ℕ) → What → Type 0
  OneFits here w = InEach (λ x. WhatOperandsFit m.order (program_in m) x here (result_at here) w)

  abbrev pub ListFits : (here : ℕ) → List Stmt → Type 0
  ListFits here ss = InEach (λ x. AllOperandsFit m.order (program_in m) x here (result_at here) (stmts_view ss))

  pub record RoundFits (r : Round) : Type 0 where
    pub test : InEach (λ x. OperandsFit m.order (program_in m) x (expr_view r.test.now))
    pub body : ListFits r.here r.body.now
    pub next : ListFits r.here r.next.now

  abbrev pub FrameFits : Frame → Type 0
  FrameFits (Rest here ss) = ListFits here ss.now
  FrameFits (Turn r) = RoundFits r
  FrameFits (Again r) = RoundFits r
  FrameFits (Scope bs) = Unit {0}
  FrameFits (Arm n) = Unit {0}
  FrameFits (Call f d l) =
      InEach (λ x. ReceivedFits m.order (program_in m) x f.now.result (option_map dest_view d.now))

  abbrev pub PileFits : List Frame → Type 0
  PileFits [] = Unit {0}
  PileFits (f ∷ fs) = FrameFits f × PileFits fs

  -- bytes that lie in their block, at least one
  pub record BytesFit (x : Bytes) : Type 0 where
    pub some : 0 < x.count
    pub there : x.block < length (program_in m).blocks
    pub inside : x.here + x.count ≤ size_on m x.block
    pub small : x.here + x.count < 2 ^ 32

  abbrev pub NowFits : Now → Type 0
  NowFits (now.List here ss) = ListFits here ss.now
  NowFits (now.Statement here s) =
      OneFits here (what_view s.now.what) × (takes_step (what_view s.now.what) ≡ true)
  NowFits (now.Turn r) = RoundFits r
  NowFits (now.Reads x) = BytesFit x
  NowFits (now.Writes x l) = BytesFit x
  NowFits (now.Leave w) = Unit {0}
  NowFits now.Starve = Unit {0}
  NowFits (now.Faulty l k) = Unit {0}
