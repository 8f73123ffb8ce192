use Rattle.std.proofs.Common.{◌≡◌, ◌≤◌, ◌++◌, length, drop}
use Rattle.ep_bitslice.specs.Bits.{renamed}
use Rattle.ep_bitslice.specs.Segments.{bits, IsForm}
use Rattle.ep_bitslice.proofs.form.Form.rename.Given as goal

abbrev pub invariant-loop-s : goal.invariant-loop-s
invariant-loop-s l = record {
  form : IsForm l.after;
  few : length l.after ≤ l.s-index;
  ahead : bits l.after ++ renamed l.from l.to (bits (drop l.s-index l.s-items)) ≡ renamed l.from l.to (bits l.self);
}
