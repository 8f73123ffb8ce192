use Rattle.std.proofs.Common.{sym, ap, ◌∙◌}
use Rattle.std.proofs.lemmas.Result.{IfOk-weaker}
use Rattle.ep_cell_ranges.specs.Moves.{place_at, taken}
use Rattle.ep_evaluation.specs.Given.{cells_of}
use Rattle.ep_transfer_pieces.specs.Pieces.{side_of}
use Rattle.ep_transfer_copies.proofs.Moving.{stays_there, goes_there, new_there, one_side}
use Rattle.ep_transfer_copies.proofs.moves.moved_alone.Goals as goal

pub returns-then-stays-clause-value : goal.returns-then-stays-clause-value
returns-then-stays-clause-value g c =
    stays_there g.N.Num.ops c.args.aggregate c.args.to c.args.from c.args.bytes c.args.state
    (cells_of (side_of c.args.on))
    (taken g.N.Num.ops c.args.state (place_at (cells_of (side_of c.args.on)) c.args.from c.args.bytes))
    (sym c.stays.ensures ∙ c.if-stays.true)

pub put_there-requires-clause-new : goal.put_there-requires-clause-new
put_there-requires-clause-new g c =
    let k = c.args.state in
    let there = place_at (cells_of (side_of c.args.on)) c.args.from c.args.bytes in
    new_there k.model k.cells c.in_ok-taken.taken.items _
    (place_at c.cells-side.result c.args.from c.args.bytes) there
    (ap (λ s. place_at s c.args.from c.args.bytes) c.cells-side.ensures) c.in_ok-taken.ensures
    (c.taken_laws.ensures.new k there c.model.ensures.cells (one_side (side_of c.args.on)))

pub returns-clause-value : goal.returns-clause-value
returns-clause-value g c =
    IfOk-weaker c.put_there.result _ _
    (λ j h. goes_there g.N.Num.ops c.args.aggregate c.args.to c.args.from c.args.bytes c.args.state j
    c.cells-side.result (cells_of (side_of c.args.on)) c.in_ok-taken.taken.items _
    (sym c.stays.ensures ∙ c.if-stays.false) c.cells-side.ensures c.in_ok-taken.ensures h)
    c.put_there.ensures.value
