use Rattle.std.proofs.Common.{◌≡◌, drop, map}
use Rattle.std.specs.List.{list_all}
use Rattle.ep_int.specs.Memory.{is_zero}
use Rattle.ep_bytes.specs.View.{byte_in}
use Rattle.ep_bytes.proofs.reads.is_zero.Given as goal

abbrev pub invariant-loop-byte : goal.invariant-loop-byte
invariant-loop-byte l =
    list_all is_zero (map byte_in (drop l.byte-index l.bytes)) ≡ list_all is_zero (map byte_in l.bytes)
