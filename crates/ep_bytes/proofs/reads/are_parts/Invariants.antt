use Rattle.std.proofs.Common.{◌≡◌, drop, map}
use Rattle.ep_int.specs.Memory.{are_parts}
use Rattle.ep_bytes.specs.View.{byte_in}
use Rattle.ep_bytes.proofs.reads.are_parts.Given as goal

abbrev pub invariant-loop-k : goal.invariant-loop-k
invariant-loop-k l = are_parts l.block l.offset l.k (map byte_in (drop l.k l.bytes))
    ≡ are_parts l.block l.offset 0 (map byte_in l.bytes)
