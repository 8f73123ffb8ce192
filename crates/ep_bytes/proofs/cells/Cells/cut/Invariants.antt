use Rattle.std.proofs.Common.{◌+◌}
use Rattle.ep_bytes.specs.Cells.{cut_by, IsWritten}
use Rattle.ep_bytes.proofs.cells.Cells.cut.Given as goal

abbrev pub invariant-loop-k : goal.invariant-loop-k
invariant-loop-k l =
    IsWritten l.initial.self l.self (l.place.start + l.low) l.k (cut_by l.model l.initial.self l.place l.low)
