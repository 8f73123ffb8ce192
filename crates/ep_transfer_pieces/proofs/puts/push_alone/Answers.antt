use Rattle.std.proofs.Common.{◌≡◌, false, sym, ◌∙◌, subst}
use Rattle.std.proofs.lemmas.Result.{IfOk-weaker}
use Rattle.ep_evaluation.specs.Given.{alone}
use Rattle.ep_transfers.specs.Copies as spec
use Rattle.ep_transfer_places.specs.Room.{view}
use Rattle.ep_transfer_pieces.specs.Pieces.{piece_view, side_of}
use Rattle.ep_transfer_pieces.specs.Puts.{is_nothing, alone_item, IsPut}
use Rattle.ep_transfer_pieces.proofs.Planning.{AddsAlone, none_added, alone_added}
use Rattle.ep_transfer_pieces.proofs.puts.push_alone.Goals as goal

pub returns-then-is_nothing : goal.returns-then-is_nothing
returns-then-is_nothing g c = λ joint.
    none_added g.N.Num.ops joint c.args.state.now (view c.args.from.now) c.args.puts.now.items (side_of c.args.on)
    c.args.offset c.args.part.now.next.piece (sym c.is_nothing.ensures ∙ c.if-is_nothing.true)

pub returns : goal.returns
returns g c =
    let D = g.N.Num.ops in
    let s = side_of c.args.on in
    let p = c.args.part.now.next.piece in
    let some : is_nothing p ≡ false = sym c.is_nothing.ensures ∙ c.if-is_nothing.false in
    let put = subst
    (λ rs. IsPut (alone s) c.args.offset (spec.scalar_of_piece D (piece_view D p)) (alone_item D s rs) c.in_ok-put.put)
    (c.deref.ensures.value ∙ c.requires.reads) c.in_ok-put.ensures in
    IfOk-weaker c.push.result _ _
    (λ r h joint. subst
    (λ ps. AddsAlone D joint c.args.state.now (view c.args.from.now) c.args.puts.now.items ps s c.args.offset
    (piece_view D p))
    (sym h)
    (alone_added D joint c.args.state.now (view c.args.from.now) c.args.puts.now.items s c.args.offset p
    c.in_ok-put.put some put))
    c.push.ensures
