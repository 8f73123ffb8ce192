use Rattle.std.proofs.Common.{◌≡◌, ◌-◌, ◌≤◌, ◌++◌}
use Rattle.ep_bitslice.specs.Bits.{part_of}
use Rattle.ep_bitslice.specs.Segments.{bits, IsForm}
use Rattle.ep_bitslice.proofs.form.Form.append.Given as goal

abbrev pub invariant-loop-at : goal.invariant-loop-at
invariant-loop-at l = record {
  low : l.from ≤ l.at;
  form : IsForm l.self;
  high : l.at ≤ l.to;
  bits_are : bits l.self ≡ bits l.fn.self ++ part_of l.from l.at (bits l.f);
}

abbrev pub decreases-loop-at : goal.decreases-loop-at
decreases-loop-at l = l.to - l.at
