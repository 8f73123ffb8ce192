use Rattle.std.proofs.Common.{◌≡◌, ◌++◌, drop}
use Rattle.ep_cert.specs.Certificate.{heads_bytes}
use Rattle.ep_cert.proofs.encoding.put_heads.Given as goal

abbrev pub invariant-loop-h : goal.invariant-loop-h
invariant-loop-h l = l.out.items ++ heads_bytes (drop l.h-index l.heads) ≡ l.fn.out.items ++ heads_bytes l.fn.heads
