use Rattle.ep_bytes.specs.Cells.{taken_from, IsWritten}
use Rattle.ep_bytes.proofs.cells.Cells.move_in.Given as goal

abbrev pub invariant-loop-k : goal.invariant-loop-k
invariant-loop-k l = IsWritten l.initial.self l.self l.at l.k (taken_from l.model l.initial.self l.from)
