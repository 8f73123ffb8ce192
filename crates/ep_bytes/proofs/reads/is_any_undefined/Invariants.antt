use Rattle.std.proofs.Common.{◌≡◌, drop, map}
use Rattle.std.specs.List.{list_any}
use Rattle.ep_int.specs.Memory.{is_undefined}
use Rattle.ep_bytes.specs.View.{byte_in}
use Rattle.ep_bytes.proofs.reads.is_any_undefined.Given as goal

abbrev pub invariant-loop-byte : goal.invariant-loop-byte
invariant-loop-byte l =
    list_any is_undefined (map byte_in (drop l.byte-index l.bytes)) ≡ list_any is_undefined (map byte_in l.bytes)
