-- How much there is to do before the next step.
use Rattle.std.specs.Prelude.{ℕ, ◌+◌, List, [], ◌∷◌}
use Rattle.ep_core.specs.Program.{What, simple, call, if_else, loop, break_loop, continue_loop, by_order, scope}
use Rattle.ep_core.specs.Program.{Stmts, stop, more}
use Rattle.ep_core.specs.View.{stmts_view}
use Rattle.ep_frames.specs.declared.frames.Frame.{Frame}
use Rattle.ep_frames.specs.declared.frames.Frame.TheVariants.{Rest, Turn, Again, Scope, Arm, Call}
use Rattle.ep_frames.specs.declared.frames.Now.{Now}
use Rattle.ep_frames.specs.declared.frames.Now.TheVariants as now

abbrev mutual
  pub heft_one : What → ℕ
  heft_one (simple w) = 0
  heft_one (call k es d) = 0
  heft_one (if_else e a b) = 0
  heft_one (loop first e a b) = 0
  heft_one break_loop = 0
  heft_one continue_loop = 0
  heft_one (by_order named a b) = 0
  heft_one (scope bs a) = 4 + heft a

  pub heft : Stmts → ℕ
  heft stop = 1
  heft (more l w rest) = 4 + (heft_one w + heft rest)

abbrev pub heft_in : Frame → ℕ
heft_in (Rest here ss) = 1 + heft (stmts_view ss.now)
heft_in (Turn r) = 3 + heft (stmts_view r.next.now)
heft_in (Again r) = 1
heft_in (Scope bs) = 1
heft_in (Arm n) = 1
heft_in (Call f d l) = 1

abbrev pub heft_all : List Frame → ℕ
heft_all [] = 0
heft_all (f ∷ fs) = heft_in f + heft_all fs

abbrev pub heft_now : Now → ℕ
heft_now (now.List here ss) = heft (stmts_view ss.now)
heft_now (now.Statement here s) = 0
heft_now (now.Turn r) = 0
heft_now (now.Reads x) = 0
heft_now (now.Writes x l) = 0
heft_now (now.Leave w) = 0
heft_now now.Starve = 0
heft_now (now.Faulty l k) = 0
