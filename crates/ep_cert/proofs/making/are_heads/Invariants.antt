use Rattle.std.proofs.Common.{◌↔◌, drop}
use Rattle.ep_cert_cells.specs.Bytes.{Every}
use Rattle.ep_cert.specs.Certificate.{shown, IsHead}
use Rattle.ep_cert.proofs.making.are_heads.Given as goal

abbrev pub invariant-loop-h : goal.invariant-loop-h
invariant-loop-h l =
    Every (IsHead (shown l.cert)) (drop l.h-index l.heads) ↔ Every (IsHead (shown l.cert)) l.heads
