use Rattle.std.proofs.Common.{◌≡◌, arith, subst}
use Rattle.ep_shared_parts.specs.Spread.{outlines, parts_to}
use Rattle.ep_shared_parts.specs.Mentions.{number_of_use}
use Rattle.ep_shared_parts.proofs.Spreading.{parts_to_le, outlines_as_many}
use Rattle.ep_shared_parts.proofs.uses.note.Goals as goal

pub add-requires-clause-within : goal.add-requires-clause-within
add-requires-clause-within c =
    let e = subst (λ ps. c.wide_parts_to-i.result ≡ parts_to c.number-k.result (outlines number_of_use ps)) c.deref.ensures.value c.wide_parts_to-i.ensures in
    omega (arith, e, c.in_ok-make_wide_room.ensures.starts, parts_to_le c.number-k.result (outlines number_of_use c.make_wide_room.new.parts.items), outlines_as_many number_of_use c.make_wide_room.new.parts.items)
