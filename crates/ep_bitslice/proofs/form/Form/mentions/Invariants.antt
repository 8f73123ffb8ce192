use Rattle.std.proofs.Common.{◌≡◌, drop}
use Rattle.ep_bitslice.specs.Bits.{mentions}
use Rattle.ep_bitslice.specs.Segments.{bits}
use Rattle.ep_bitslice.proofs.form.Form.mentions.Given as goal

abbrev pub invariant-loop-s : goal.invariant-loop-s
invariant-loop-s l = mentions l.c (bits l.self) ≡ mentions l.c (bits (drop l.s-index l.s-items))
