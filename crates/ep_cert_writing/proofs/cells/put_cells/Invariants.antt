use Rattle.std.proofs.Common.{◌≡◌, ◌++◌, map, drop}
use Rattle.std.specs.List.{flat_map}
use Rattle.ep_cert_cells.specs.Bytes.{cell_bytes}
use Rattle.ep_cert_writing.proofs.cells.put_cells.Given as goal

abbrev pub invariant-loop-c : goal.invariant-loop-c
invariant-loop-c l =
    l.out.items ++ flat_map cell_bytes (map (λ r. r.now) (drop l.c-index l.cells))
    ≡ l.fn.out.items ++ flat_map cell_bytes (map (λ r. r.now) l.fn.cells)
