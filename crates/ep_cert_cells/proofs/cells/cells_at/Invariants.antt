use Rattle.std.proofs.Common.{◌-◌}
use Rattle.ep_cert_cells.specs.Reading.{list_at, cell_at}
use Rattle.ep_cert_cells.proofs.Readers.{Left}
use Rattle.ep_cert_cells.proofs.cells.cells_at.Given as goal

abbrev pub invariant-loop : goal.invariant-loop
invariant-loop l =
    Left cell_at (list_at cell_at l.fn.count l.fn.bytes) l.cells.items (l.count - l.counter) l.rest
