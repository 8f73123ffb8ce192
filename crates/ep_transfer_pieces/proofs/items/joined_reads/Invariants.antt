use Rattle.std.proofs.Common.{◌≡◌, drop}
use Rattle.ep_evaluation.specs.Accesses.{joined_from, joined_reads}
use Rattle.ep_transfer_pieces.proofs.items.joined_reads.Given as goal

abbrev pub invariant-loop-r : goal.invariant-loop-r
invariant-loop-r g l = joined_from g.N.Num.ops l.sofar (drop l.r-index l.reads) ≡ joined_reads g.N.Num.ops l.reads
