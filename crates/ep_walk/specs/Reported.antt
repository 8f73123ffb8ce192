-- What the analysis reports of the program of a plan.
use Rattle.std.specs.Prelude.{ℕ, List, [], Option, slice_get}
use Rattle.ep_int.specs.declared.types.Order.{Order}
use Rattle.ep_alarms.specs.declared.types.Alarm.{Alarm}
use Rattle.ep_core.specs.Program.{Program}
use Rattle.ep_core.specs.Runs.{Side}
use Rattle.ep_pass.specs.States.{StateOps}
use Rattle.ep_pass.specs.Pass.{Event, Log, logged, both_logs, join_on, tried, main_pass, faults_at_end, report_of}
use Rattle.ep_pass.specs.Pass.{turns_of, heads_of}
use Rattle.ep_flows.specs.View.{Plan}
use Rattle.ep_walk_parts.specs.Pieces.{o}

module _ {S : Type 0} (ops : Program → (Side → Order) → StateOps S) (c : Plan) where
  abbrev pub report_on : List Alarm
  report_on = report_of (o ops c) c.unroll c.limit c.order c.program

  abbrev pub turns_in : ℕ
  turns_in = turns_of (o ops c) c.unroll c.limit c.order c.program

  abbrev pub heads_in : List S
  heads_in = heads_of (o ops c) c.unroll c.limit c.order c.program

  -- the faults at the end of main, where this state is reached
  abbrev pub end_of : Option S → List Event
  end_of v = faults_at_end (o ops c) (slice_get c.program.functions c.program.main) v

  -- what main tells, with its end
  abbrev pub told_in : Log S
  told_in =
      let p = main_pass (o ops c) c.unroll (tried (o ops c) c.limit) c.order c.program in
      both_logs p.log (logged (end_of (join_on (o ops c) p.ways.returned p.on)) 0 [])
