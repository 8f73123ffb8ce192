use Rattle.std.proofs.Common.{◌≡◌, ◌++◌, drop}
use Rattle.std.specs.List.{flat_map}
use Rattle.ep_cert_cells.specs.Bytes.{target_bytes}
use Rattle.ep_cert_writing.proofs.pointers.put_targets.Given as goal

abbrev pub invariant-loop-t : goal.invariant-loop-t
invariant-loop-t l =
    l.out.items ++ flat_map target_bytes (drop l.t-index l.targets) ≡ l.fn.out.items ++ flat_map target_bytes l.fn.targets
