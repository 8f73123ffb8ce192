use Rattle.std.proofs.Common.{arith, subst, ◌≡◌}
use Rattle.std.proofs.lemmas.Bool.Decides.{nat_tests}
use Rattle.ep_shared_parts.specs.Spread.{outlines, parts_to}
use Rattle.ep_shared_parts.proofs.Spreading.{parts_to_le, outlines_as_many}
use Rattle.ep_shared_parts.proofs.parts.make_wide_room.Goals as goal

pub halve-requires-clause-within : goal.halve-requires-clause-within
halve-requires-clause-within g c =
    let e = subst (λ ps. c.wide_parts_to-i.result ≡ parts_to c.args.k (outlines g.T.Numbered.number ps)) c.deref.ensures.value c.wide_parts_to-i.ensures in
    grind (arith, nat_tests, e, parts_to_le c.args.k (outlines g.T.Numbered.number c.args.parts.now.items), outlines_as_many g.T.Numbered.number c.args.parts.now.items, c.if-i-eq0.false)
