use Rattle.std.proofs.Common.{◌≡◌, ◌++◌, drop}
use Rattle.std.specs.Vec.Iter.{into_iter_items}
use Rattle.ep_core.specs.ProgramView.{program_view}
use Rattle.ep_transfer_calls.specs.Waiting.{AllWait}
use Rattle.ep_transfer_calls.proofs.Set.{all}
use Rattle.ep_transfer_calls.proofs.passing.set_all.Given as goal

-- what is left makes of it what all make of the state
abbrev pub invariant-loop-b : goal.invariant-loop-b
invariant-loop-b g l = record {
  waits : AllWait g.N.Num.ops (program_view l.program) l.frame.keys (drop l.b-index l.params) (into_iter_items l.rest) l.now;
  next : (all g.N.Num.ops (program_view l.program) l.frame.keys l.mode (drop l.b-index l.params) (into_iter_items l.rest)
      l.now).next
      ≡ (all g.N.Num.ops (program_view l.program) l.frame.keys l.mode l.params l.fn.values.items l.fn.state).next;
  faults : l.faults.items ++ (all g.N.Num.ops (program_view l.program) l.frame.keys l.mode (drop l.b-index l.params)
      (into_iter_items l.rest) l.now).faults
      ≡ l.fn.faults.items ++ (all g.N.Num.ops (program_view l.program) l.frame.keys l.mode l.params l.fn.values.items
      l.fn.state).faults;
}
