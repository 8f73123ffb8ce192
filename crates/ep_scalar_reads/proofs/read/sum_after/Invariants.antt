use Rattle.std.proofs.Common.{◌≡◌, ◌+◌, drop}
use Rattle.ep_reads.specs.Read.{sum_after}
use Rattle.ep_scalar_reads.proofs.read.sum_after.Given as goal

abbrev pub invariant-loop-r : goal.invariant-loop-r
invariant-loop-r g l =
    (l.i ≡ l.r-index + 1)
    × (sum_after g.N.Num.ops l.t l.sum l.i (drop l.r-index l.bytes) ≡ sum_after g.N.Num.ops l.t l.fn.first 1 l.bytes)
