use Rattle.std.proofs.Common.{sym, subst}
use Rattle.std.proofs.lemmas.Result.{IfOk-weaker}
use Rattle.ep_transfer_places.specs.Room.{view}
use Rattle.ep_transfer_pieces.specs.Pieces.{piece_view}
use Rattle.ep_transfer_pieces.proofs.Planning.{AddsTogether, together_added, put_of_both}
use Rattle.ep_transfer_pieces.proofs.puts.push_together.Goals as goal

pub returns : goal.returns
returns g c =
    let D = g.N.Num.ops in
    let put = put_of_both D c.args.joint c.args.state.now (view c.args.from.now) c.args.offset c.args.piece
    c.args.left.now c.args.right.now c.in_ok-put.put c.requires.some c.requires.left c.requires.right
    c.in_ok-put.ensures in
    IfOk-weaker c.push.result _ _
    (λ r h. subst
    (λ ps. AddsTogether D c.args.joint c.args.state.now (view c.args.from.now) c.args.puts.now.items ps c.args.offset
    (piece_view D c.args.piece))
    (sym h)
    (together_added D c.args.joint c.args.state.now (view c.args.from.now) c.args.puts.now.items c.args.offset
    (piece_view D c.args.piece) c.in_ok-put.put put))
    c.push.ensures
