use Rattle.std.proofs.Common.{◌≡◌, ◌-◌, ◌≤◌, ◌++◌, drop}
use Rattle.ep_bitslice.specs.Bits.{are_disjoint, either_of}
use Rattle.ep_bitslice.specs.Segments.{bits, IsForm}
use Rattle.ep_bitslice.proofs.form.Form.disjoint_or.Given as goal

abbrev pub invariant-loop-at : goal.invariant-loop-at
invariant-loop-at l = record {
  high : l.at ≤ l.width;
  form : IsForm l.both;
  apart : are_disjoint (bits l.a) (bits l.b) ≡ are_disjoint (drop l.at (bits l.a)) (drop l.at (bits l.b));
  ahead : bits l.both ++ either_of (drop l.at (bits l.a)) (drop l.at (bits l.b)) ≡ either_of (bits l.a) (bits l.b);
}

abbrev pub decreases-loop-at : goal.decreases-loop-at
decreases-loop-at l = l.width - l.at
