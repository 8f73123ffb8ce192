use Rattle.std.proofs.Common.{◌≡◌}
use Rattle.ep_bit_laws.specs.Edges.{first_at}
use Rattle.ep_bits.proofs.edges.first_at.Given as goal

abbrev pub invariant-loop-k : goal.invariant-loop-k
invariant-loop-k l = l.found ≡ first_at l.fn.zeros l.fn.ones l.fn.from l.k
