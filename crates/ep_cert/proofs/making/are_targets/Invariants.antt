use Rattle.std.proofs.Common.{◌↔◌, drop}
use Rattle.ep_cert_cells.specs.Bytes.{Every, IsTarget}
use Rattle.ep_cert.proofs.making.are_targets.Given as goal

abbrev pub invariant-loop-t : goal.invariant-loop-t
invariant-loop-t l = Every IsTarget (drop l.t-index l.targets) ↔ Every IsTarget l.targets
