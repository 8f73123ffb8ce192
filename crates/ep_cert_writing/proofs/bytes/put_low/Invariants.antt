use Rattle.std.proofs.Common.{◌≡◌, ◌-◌, ◌++◌}
use Rattle.ep_cert_cells.specs.Bytes.{low}
use Rattle.ep_cert_writing.proofs.bytes.put_low.Given as goal

abbrev pub invariant-loop : goal.invariant-loop
invariant-loop l = l.out.items ++ low (l.count - l.counter) l.rest ≡ l.fn.out.items ++ low l.fn.count l.fn.number
