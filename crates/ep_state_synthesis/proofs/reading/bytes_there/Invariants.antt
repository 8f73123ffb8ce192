use Rattle.std.proofs.Common.{◌≡◌, ◌++◌, ◌-◌}
use Rattle.ep_reads.specs.Read.{bytes_from}
use Rattle.ep_scalar_reads.specs.Parts.{HaveByteForms}
use Rattle.ep_state_synthesis.proofs.Bytes.{byte_in}
use Rattle.ep_state_synthesis.proofs.reading.bytes_there.Given as goal

abbrev pub invariant-loop-i : goal.invariant-loop-i
invariant-loop-i g l =
    (l.out.items ++ bytes_from (byte_in g.N.Num.ops l.state l.p) l.i (l.p.bytes - l.i)
    ≡ bytes_from (byte_in g.N.Num.ops l.state l.p) 0 l.p.bytes)
    × HaveByteForms l.out.items
