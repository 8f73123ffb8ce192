-- What the checker has found on its way through statements, where it goes on and where it stops. This project's words.
use Rattle.std.specs.Prelude.{◌≡◌, ℕ, ◌+◌, ◌≤◌, List, [], ◌∷◌, length, Result, Ok, Err}
use Rattle.ep_alarms.specs.declared.types.Alarm.{Alarm}
use Rattle.ep_core.specs.Program.{Program}
use Rattle.ep_core.specs.Runs.{Side}
use Rattle.ep_int.specs.declared.types.Order.{Order}
use Rattle.ep_pass.specs.States.{StateOps}
use Rattle.ep_pass.specs.Pass.{Event, alarm, outside, missing, Log, Pass}
use Rattle.ep_flows.specs.View.{Plan, ways_view}
use Rattle.ep_flows.specs.declared.flow.Flow.{Flow}
use Rattle.ep_certcheck_laws.specs.Checked.{with_least_faults}
use Rattle.ep_certcheck_walk.specs.Found.{IsOutsideOf}
use Rattle.ep_certcheck_walk.specs.declared.stop.Stop.{Stop}
use Rattle.ep_certcheck_walk.specs.declared.stop.Stop.TheVariants.{OutOfMemory, Fault, Outside, Missing}

-- the operations on states, of two states the first cell of the second that the first fails, the heads, and the plan
pub record Course (S : Type 0) : Type 0 where
  pub raw : StateOps S
  pub fails : S → S → ℕ
  pub list : List S
  pub plan : Plan

abbrev pub course : {S : Type 0} → (Program → (Side → Order) → StateOps S) → (S → S → ℕ) → Plan → List S → Course S
course ops fails c hs = record { raw = ops c.program c.order; fails = fails; list = hs; plan = c }

-- of the faults of one statement the least alone is found
abbrev pub checking : {S : Type 0} → Course S → StateOps S
checking k = with_least_faults k.raw

-- ---- stops

abbrev pub stop_of : Event → Stop
stop_of (alarm a) = Fault a.line a.kind
stop_of (outside l h n) = Outside h n
stop_of (missing l) = Missing l

-- it is the first event
pub record Begins (es : List Event) (s : Stop) : Type 0 where
  pub event : Event
  pub rest : List Event
  pub is : es ≡ event ∷ rest
  pub shown : stop_of event ≡ s

-- the first event stops, unless memory runs out
abbrev pub IsStop : {S : Type 0} → Course S → List Event → Stop → Type 0
IsStop k es OutOfMemory = Unit {0}
IsStop k es (Fault l a) = Begins es (Fault l a)
IsStop k es (Outside h n) = Begins es (Outside h n) × IsOutsideOf k.raw k.fails k.list h n
IsStop k es (Missing l) = Begins es (Missing l)

-- the first of a statement's alarms
abbrev pub LooksAt : List Alarm → Result Unit Stop → Type 0
LooksAt [] (Ok u) = Unit {0}
LooksAt [] (Err s) = ⊥
LooksAt (a ∷ more) (Ok u) = ⊥
LooksAt (a ∷ more) (Err s) = s ≡ Fault a.line a.kind

-- there is no event, and a value of which this holds, or a stop
abbrev pub Gives : {S T : Type 0} → Course S → List Event → (T → Type 0) → Result T Stop → Type 0
Gives k es P (Ok v) = (es ≡ []) × P v
Gives k es P (Err s) = IsStop k es s

-- nothing is asked of the value
abbrev pub nothing_more : {T : Type 0} → T → Type 0
nothing_more u = Unit {0}

-- ---- passes

-- nothing is found, and so many heads were taken before and after, no more than there are
pub record Counts {S : Type 0} (k : Course S) (g : Log S) (old new : ℕ) : Type 0 where
  pub quiet : g.faults ≡ []
  pub taken : new ≡ old + length g.heads
  pub within : old ≤ length k.list → new ≤ length k.list

pub record HasFound {S : Type 0} (k : Course S) (p : Pass S) (f : Flow S) (old new : ℕ) : Type 0 where
  pub on : f.on ≡ p.on
  pub ways : ways_view f.ways ≡ p.ways
  pub log : Counts k p.log old new

abbrev pub Finds : {S : Type 0} → Course S → Pass S → Result (Flow S) Stop → (old new : ℕ) → Type 0
Finds k p (Ok f) old new = HasFound k p f old new
Finds k p (Err s) old new = IsStop k p.log.faults s
