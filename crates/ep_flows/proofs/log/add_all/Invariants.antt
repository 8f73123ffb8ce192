use Rattle.std.proofs.Common.{◌≡◌, fold, drop}
use Rattle.ep_alarms.specs.Report.{added}
use Rattle.ep_flows.proofs.log.add_all.Given as goal

abbrev pub invariant-loop-a : goal.invariant-loop-a
invariant-loop-a l = fold added l.alarms (drop l.a-index l.a-items) ≡ fold added l.fn.alarms l.fn.found
