use Rattle.std.proofs.Common.{sym, ◌∙◌, refl}
use Rattle.std.proofs.lemmas.Result.{IfOk-weaker}
use Rattle.ep_bitslice.specs.declared.cell.Side.TheVariants.{Shared}
use Rattle.ep_cell_ranges.specs.Moves.{place_at, taken_by_both}
use Rattle.ep_transfer_copies.proofs.Moving.{stays_there, goes_there, new_there}
use Rattle.ep_transfer_copies.proofs.moves.moved_both.Goals as goal

pub returns-then-stays : goal.returns-then-stays
returns-then-stays g c =
    stays_there g.N.Num.ops c.args.aggregate c.args.to c.args.from c.args.bytes c.args.state Shared
    (taken_by_both g.N.Num.ops c.args.state c.args.from c.args.bytes)
    (sym c.stays.ensures ∙ c.if-stays.true)

pub put_there-requires-clause-new : goal.put_there-requires-clause-new
put_there-requires-clause-new g c =
    let k = c.args.state in
    let there = place_at Shared c.args.from c.args.bytes in
    new_there k.model k.cells c.in_ok-taken.taken.items _ there there refl c.in_ok-taken.ensures
    (c.taken_laws.ensures.both_new k c.args.from c.args.bytes c.model.ensures.cells)

pub returns : goal.returns
returns g c =
    IfOk-weaker c.put_there.result _ _
    (λ j h. goes_there g.N.Num.ops c.args.aggregate c.args.to c.args.from c.args.bytes c.args.state j
    Shared Shared c.in_ok-taken.taken.items _ (sym c.stays.ensures ∙ c.if-stays.false)
    refl c.in_ok-taken.ensures h)
    c.put_there.ensures.value
