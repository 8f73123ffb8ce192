use Rattle.std.proofs.Common.{◌≡◌, ◌-◌}
use Rattle.ep_transfers.specs.Transfers.{after_faults, bytes_out}
use Rattle.ep_transfer_places.specs.Room.{view}
use Rattle.ep_transfer_outputs.proofs.bytes.bytes_out.Given as goal

-- with the bytes that are left it is all
abbrev pub invariant-loop-byte : goal.invariant-loop-byte
invariant-loop-byte g l =
    after_faults l.faults.items (bytes_out g.N.Num.ops l.mode l.same_from l.state (view l.places) l.byte (l.bytes - l.byte))
    ≡ after_faults l.fn.faults.items (bytes_out g.N.Num.ops l.mode l.same_from l.state (view l.places) 0 l.bytes)
