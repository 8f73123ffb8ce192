-- What the code has done where it went through statements as a pass says. This project's words.
use Rattle.std.specs.Prelude.{◌≡◌, ℕ, ◌+◌, ◌≤◌, List, [], ◌∷◌, ◌++◌, fold, map, Option, Some, None, Result, Ok, Err}
use Rattle.std.specs.Prelude.{Bool, true, false, if◌then◌else◌}
use Prim.Native.Nat.{min}
use Rattle.ep_int.specs.declared.types.Memory.{Memory}
use Rattle.ep_int.specs.declared.types.Order.{Order}
use Rattle.ep_alarms.specs.declared.types.Alarm.{Alarm}
use Rattle.ep_alarms.specs.Report.{added}
use Rattle.ep_core.specs.Program.{What, Simple, simple, nothing, call, if_else, loop, break_loop, continue_loop}
use Rattle.ep_core.specs.Program.{by_order, scope, Program}
use Rattle.ep_core.specs.Runs.{Side, left, right}
use Rattle.ep_core.specs.ProgramView.{program_view}
use Rattle.ep_pass.specs.States.{Mode, Both, One, Verdict, stuck, same, differs, StateOps}
use Rattle.ep_pass.specs.Pass.{alarm_of, Log, logged, Pass, passed, Ways}
use Rattle.ep_flows.specs.declared.setting.Machine.{Machine}
use Rattle.ep_flows.specs.declared.setting.Machine.TheVariants.{Left, Right}
use Rattle.ep_flows.specs.declared.setting.Running.{Running}
use Rattle.ep_flows.specs.declared.setting.Running.TheVariants.{Together, Alone}
use Rattle.ep_flows.specs.declared.setting.Truths.{Truths}
use Rattle.ep_flows.specs.declared.setting.Truths.TheVariants.{Stuck, Same, Differs}
use Rattle.ep_flows.specs.declared.setting.Setting.{Setting}
use Rattle.ep_flows.specs.declared.flow.Flow.{Flow}
use Rattle.ep_flows.specs.declared.flow.Ways as ways

abbrev pub side_of : Machine → Side
side_of Left = left
side_of Right = right

abbrev pub mode_of : Running → Mode
mode_of Together = Both
mode_of (Alone m) = One (side_of m)

abbrev pub verdict_of : Truths → Verdict
verdict_of Stuck = stuck
verdict_of Same = same
verdict_of Differs = differs

abbrev pub orders : Order → Order → Side → Order
orders a b left = a
orders a b right = b

-- a program, the byte orders of the sides, so many turns that are unrolled, and the number of the last head
pub record Plan : Type 0 where
  pub program : Program
  pub order : Side → Order
  pub unroll : ℕ
  pub limit : ℕ

abbrev pub plan_of : Setting → Plan
plan_of c = record {
  program = program_view c.program.now;
  order = orders c.left c.right;
  unroll = c.unroll;
  limit =
      c.limit;
}

-- the operations on states for this plan
abbrev pub ops_for : {S : Type 0} → (Program → (Side → Order) → StateOps S) → Plan → StateOps S
ops_for ops c = ops c.program c.order

-- a statement without statements in it
abbrev pub simple_of : What → Simple
simple_of (simple w) = w
simple_of (call f es d) = nothing
simple_of (if_else e a b) = nothing
simple_of (loop first e a b) = nothing
simple_of break_loop = nothing
simple_of continue_loop = nothing
simple_of (by_order o a b) = nothing
simple_of (scope bs a) = nothing

abbrev pub is_simple : What → Bool
is_simple (simple w) = true
is_simple (call f es d) = false
is_simple (if_else e a b) = false
is_simple (loop first e a b) = false
is_simple break_loop = false
is_simple continue_loop = false
is_simple (by_order o a b) = false
is_simple (scope bs a) = false

-- ---- heads of a loop

-- a head, widened by what comes of it, unless it keeps that
abbrev pub wider_of : {S : Type 0} → StateOps S → S → Option S → Option S
wider_of o h None = None
wider_of o h (Some s) =
    if o.leq (o.unified h s).1 h then None
    else Some (o.reshared (o.widened (o.unified h s).0 (o.unified h s).1))

-- ---- logs

-- the alarms, the count and, where they are kept, the heads so far
pub record Told (S : Type 0) : Type 0 where
  pub alarms : List Alarm
  pub count : ℕ
  pub heads : Option (List S)

-- a count up to the largest number of 64 bits
abbrev pub capped : ℕ → ℕ
capped n = min n 18446744073709551615

-- a count that has gone up by so many at most
pub record CountsUpTo (most old new : ℕ) : Type 0 where
  pub bound : capped new ≤ capped (old + most)

abbrev pub more_heads : {S : Type 0} → Option (List S) → List S → Option (List S)
more_heads None hs = None
more_heads (Some gs) hs = Some (gs ++ hs)

-- a head, and those inside its turn
abbrev pub kept_heads : {S : Type 0} → Option (List S) → S → Option (List S) → Option (List S)
kept_heads None h more = None
kept_heads (Some gs) h None = Some (gs ++ h ∷ [])
kept_heads (Some gs) h (Some hs) = Some (gs ++ h ∷ hs)

-- what comes to the log
pub record Tells {S : Type 0} (g : Log S) (old new : Told S) : Type 0 where
  pub alarms : new.alarms ≡ fold added old.alarms (map alarm_of g.faults)
  pub count : capped new.count ≡ capped (old.count + g.count)
  pub heads : new.heads ≡ more_heads old.heads g.heads

-- ---- passes

abbrev pub ways_view : {S : Type 0} → ways.Ways S → Ways S
ways_view w = record { broken = w.broken; continued = w.continued; returned = w.returned }

-- where statements were left, as a pass that tells nothing
abbrev pub flow_view : {S : Type 0} → Flow S → Pass S
flow_view f = passed f.on (ways_view f.ways) (logged [] 0 [])

pub record HasPassed {S : Type 0} (p : Pass S) (f : Flow S) (old new : Told S) : Type 0 where
  pub on : f.on ≡ p.on
  pub ways : ways_view f.ways ≡ p.ways
  pub log : Tells p.log old new

-- A pass, or an error: before it no more was counted than the whole pass counts.
abbrev pub Passes : {S : Type 0} → Pass S → Result (Flow S) Memory → (old new : Told S) → Type 0
Passes p (Ok f) old new = HasPassed p f old new
Passes p (Err e) old new = CountsUpTo p.log.count old.count new.count
