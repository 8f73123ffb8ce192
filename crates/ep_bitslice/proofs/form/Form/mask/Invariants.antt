use Rattle.std.proofs.Common.{◌≡◌, ◌-◌, ◌/◌, ◌^◌, ◌≤◌, ◌++◌, drop}
use Rattle.ep_bitslice.specs.Bits.{masked}
use Rattle.ep_bitslice.specs.Segments.{bits, IsForm}
use Rattle.ep_bitslice.proofs.form.Form.mask.Given as goal

abbrev pub invariant-loop-at : goal.invariant-loop-at
invariant-loop-at l = record {
  high : l.at ≤ l.width;
  form : IsForm l.kept;
  ahead : bits l.kept ++ masked (l.m / 2 ^ l.at) (drop l.at (bits l.self)) ≡ masked l.m (bits l.self);
}

abbrev pub decreases-loop-at : goal.decreases-loop-at
decreases-loop-at l = l.width - l.at
