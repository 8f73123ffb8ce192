use Rattle.std.proofs.Common.{◌≡◌, ◌++◌, drop}
use Rattle.std.specs.List.{flat_map}
use Rattle.ep_cert_cells.specs.Bytes.{segment_bytes}
use Rattle.ep_cert_writing.proofs.forms.put_segments.Given as goal

abbrev pub invariant-loop-s : goal.invariant-loop-s
invariant-loop-s l =
    l.out.items ++ flat_map segment_bytes (drop l.s-index l.segments) ≡ l.fn.out.items ++ flat_map segment_bytes l.fn.segments
