use Rattle.std.proofs.Common.{◌≡◌, ◌+◌, drop}
use Rattle.ep_bitslice.specs.Segments.{width}
use Rattle.ep_bitslice.proofs.form.Form.width.Given as goal

abbrev pub invariant-loop-s : goal.invariant-loop-s
invariant-loop-s l = l.width + width (drop l.s-index l.s-items) ≡ width l.self
