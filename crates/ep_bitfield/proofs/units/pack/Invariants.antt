use Rattle.std.proofs.Common.{◌≡◌, ◌++◌, drop}
use Rattle.ep_bitfield.specs.Units.{packed, packed_from}
use Rattle.ep_bitfield.proofs.units.pack.Given as goal

abbrev pub invariant-loop-i : goal.invariant-loop-i
invariant-loop-i l = l.fields.items ++ packed_from l.row (drop l.i l.list) ≡ packed l.list
