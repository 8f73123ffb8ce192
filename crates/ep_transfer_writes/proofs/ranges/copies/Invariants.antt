use Rattle.std.proofs.Common.{◌≡◌, ◌++◌, ◌+◌, ◌-◌}
use Rattle.ep_transfer_writes.specs.Running.{copies}
use Rattle.ep_transfer_writes.proofs.Copying.{byte_at}
use Rattle.ep_transfer_writes.proofs.ranges.copies.Given as goal

abbrev pub invariant-loop-i : goal.invariant-loop-i
invariant-loop-i g l = l.out.items ++ copies (byte_at l.c (l.c.offset + l.i)) (l.bytes - l.i) ≡ copies l.c l.bytes
