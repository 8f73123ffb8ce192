use Rattle.std.proofs.Common.{◌≡◌, ◌+◌, ◌-◌, ◌<◌, length, drop}
use Rattle.ep_bitslice.specs.Segments.{bits, width}
use Rattle.ep_bitslice.proofs.form.Form.part_from.Given as goal

abbrev pub invariant-loop-rest : goal.invariant-loop-rest
invariant-loop-rest l = record {
  within : l.rest < width (drop l.index l.segments);
  bits_are : drop l.rest (bits (drop l.index l.segments)) ≡ drop l.at (bits l.segments);
  width_is : l.at + width (drop l.index l.segments) ≡ l.rest + width l.segments;
}

abbrev pub decreases-loop-rest : goal.decreases-loop-rest
decreases-loop-rest l = length l.segments - l.index
