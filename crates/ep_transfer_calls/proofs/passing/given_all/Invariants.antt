use Rattle.std.proofs.Common.{◌≡◌, ◌++◌, drop}
use Rattle.ep_core.specs.ProgramView.{program_view}
use Rattle.ep_transfer_calls.proofs.Evaluated.{pairs, faults}
use Rattle.ep_transfer_calls.proofs.passing.given_all.Given as goal

-- what is given so far, and what the arguments that are left give
abbrev pub invariant-loop-i : goal.invariant-loop-i
invariant-loop-i g l = record {
  values : l.values.items ++ pairs g.N.Num.ops (program_view l.program) l.mode l.state (drop l.i l.es)
      ≡ pairs g.N.Num.ops (program_view l.program) l.mode l.state l.es;
  faults : l.faults.items ++ faults g.N.Num.ops (program_view l.program) l.mode l.state (drop l.i l.es)
      ≡ l.fn.faults.items ++ faults g.N.Num.ops (program_view l.program) l.mode l.state l.es;
}
