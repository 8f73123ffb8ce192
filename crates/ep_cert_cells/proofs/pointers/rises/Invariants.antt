use Rattle.std.proofs.Common.{◌≡◌, drop}
use Rattle.ep_cert_cells.specs.Reading.{rises}
use Rattle.ep_cert_cells.proofs.pointers.rises.Given as goal

abbrev pub invariant-loop-i : goal.invariant-loop-i
invariant-loop-i l = rises l.targets ≡ rises (drop l.i l.targets)
