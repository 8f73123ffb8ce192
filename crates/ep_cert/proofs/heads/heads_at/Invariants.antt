use Rattle.std.proofs.Common.{◌-◌}
use Rattle.ep_cert_cells.specs.Reading.{list_at}
use Rattle.ep_cert.specs.Reading.{row_at}
use Rattle.ep_cert.proofs.Turns.{AreRead}
use Rattle.ep_cert.proofs.heads.heads_at.Given as goal

abbrev pub invariant-loop : goal.invariant-loop
invariant-loop l =
    AreRead l.fn.opening (list_at row_at l.fn.opening.count l.fn.bytes) l.heads.items
    (l.fn.opening.count - l.counter) l.rest
