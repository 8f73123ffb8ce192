use Rattle.std.proofs.Common.{◌+◌, ap, sym, subst, arith}
use Rattle.ep_transfer_pieces.specs.Several.{StandsAt}
use Rattle.ep_transfer_pieces.proofs.several.with_next.Goals as goal

pub overflow_add-bytes : goal.overflow_add-bytes
overflow_add-bytes g c =
    let e = c.goes_on.ensures c.if-not-goes_on.false in
    let w = c.requires.stands.within in
    let s = c.requires.size in
    let fits = c.ranges.room.fits in omega (arith, e, w, s, fits)

pub with_cell-requires-clause-stands : goal.with_cell-requires-clause-stands
with_cell-requires-clause-stands g c =
    subst (λ a. StandsAt c.args.now.state.model c.args.room c.args.spots.now a c.args.cell)
    (sym (c.goes_on.ensures c.if-not-goes_on.false)) c.requires.stands

pub with_cell-requires-clause-bytes : goal.with_cell-requires-clause-bytes
with_cell-requires-clause-bytes g c = ap (λ z. c.args.now.bytes + z) c.requires.size
