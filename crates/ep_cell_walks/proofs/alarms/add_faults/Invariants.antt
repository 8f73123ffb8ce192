use Rattle.std.proofs.Common.{◌≡◌, drop}
use Rattle.ep_cell_walks.specs.Alarms.{alarms_with}
use Rattle.ep_cell_walks.proofs.alarms.add_faults.Given as goal

abbrev pub invariant-loop-f : goal.invariant-loop-f
invariant-loop-f l =
    alarms_with l.alarms l.line (drop l.f-index l.faults) ≡ alarms_with l.fn.alarms l.fn.line l.fn.faults
