use Rattle.std.proofs.Common.{◌≡◌, ◌+◌, drop}
use Rattle.ep_flows.proofs.Bounds.{bytes}
use Rattle.ep_flows.proofs.bound.bytes_in.Given as goal

abbrev pub invariant-loop-b : goal.invariant-loop-b
invariant-loop-b l = l.bytes + bytes (drop l.b-index l.blocks) ≡ bytes l.fn.blocks
