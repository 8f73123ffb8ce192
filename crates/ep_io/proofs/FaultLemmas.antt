-- Counts over several calls.
use Rattle.std.proofs.Common.{ℕ, arith}
use Rattle.ep_io.specs.Faults.{NeverFalls}

pub NeverFalls-through : (a b c : ℕ) → NeverFalls a b → NeverFalls b c → NeverFalls a c
NeverFalls-through a b c first second = grind arith
