use Rattle.std.proofs.Common.{◌≡◌, ◌++◌, drop}
use Rattle.ep_bitslice.specs.Segments.{bits}
use Rattle.ep_cert_cells.proofs.forms.form_of.Given as goal

abbrev pub invariant-loop-s : goal.invariant-loop-s
invariant-loop-s l = bits l.whole ++ bits (drop l.s-index l.rest) ≡ bits l.fn.all
