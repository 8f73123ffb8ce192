use Rattle.std.proofs.Common.{◌≡◌, take}
use Rattle.ep_bitslice.proofs.form.Form.copy.Given as goal

abbrev pub invariant-loop-s : goal.invariant-loop-s
invariant-loop-s l = l.segments.items ≡ take l.s-index l.s-items
