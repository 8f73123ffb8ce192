use Rattle.ep_bytes.specs.Cells.{content_at, IsWritten}
use Rattle.ep_bytes.proofs.cells.Cells.write.Given as goal

abbrev pub invariant-loop-k : goal.invariant-loop-k
invariant-loop-k l = IsWritten l.initial.self l.self l.at l.k (content_at l.content)
