use Rattle.std.proofs.Common.{◌-◌}
use Rattle.ep_cert_cells.specs.Reading.{list_at, segment_at}
use Rattle.ep_cert_cells.proofs.Readers.{Left}
use Rattle.ep_cert_cells.proofs.forms.segments.Given as goal

abbrev pub invariant-loop : goal.invariant-loop
invariant-loop l =
    Left segment_at (list_at segment_at l.fn.count l.fn.bytes) l.segments.items (l.count - l.counter) l.rest
