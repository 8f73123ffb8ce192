use Rattle.std.proofs.Common.{arith, subst, sym}
use Rattle.std.specs.List.{AllByRecursion}
use Rattle.ep_bitfield.specs.Units.{AreApart, IsInUnit}
use Rattle.ep_bitfield.proofs.Packs.{packed_apart, packed_inside, walk_end}
use Rattle.ep_bitfield.proofs.units.pack.Goals as goal

pub returns-clause-inside : goal.returns-clause-inside
returns-clause-inside c =
    let is = walk_end c.args.list.now c.loop-i.i c.loop-i.row c.loop-i.fields.items (omega arith) c.loop-i.invariant in
    subst (λ es. AllByRecursion IsInUnit es) (sym is) (packed_inside c.args.list.now c.requires)

pub returns-clause-apart : goal.returns-clause-apart
returns-clause-apart c =
    let is = walk_end c.args.list.now c.loop-i.i c.loop-i.row c.loop-i.fields.items (omega arith) c.loop-i.invariant in
    subst AreApart (sym is) (packed_apart c.args.list.now c.requires)
