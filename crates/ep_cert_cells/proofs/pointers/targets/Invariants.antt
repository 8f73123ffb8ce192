use Rattle.std.proofs.Common.{◌-◌}
use Rattle.ep_cert_cells.specs.Reading.{list_at, target_at}
use Rattle.ep_cert_cells.proofs.Readers.{Left}
use Rattle.ep_cert_cells.proofs.pointers.targets.Given as goal

abbrev pub invariant-loop : goal.invariant-loop
invariant-loop l =
    Left target_at (list_at target_at l.fn.count l.fn.bytes) l.targets.items (l.count - l.counter) l.rest
