use Rattle.std.proofs.Common.{sym, ◌∙◌, subst}
use Rattle.std.proofs.lemmas.Result.{IfOk-weaker}
use Rattle.ep_core.specs.Runs.{right}
use Rattle.ep_evaluation.specs.Given.{cells_of}
use Rattle.ep_transfers.specs.Places.{moved_spots}
use Rattle.ep_transfer_places.specs.Room.{view}
use Rattle.ep_transfer_pieces.specs.Puts.{AreSources}
use Rattle.ep_transfer_pieces.proofs.Looking.{alike_is, alike_some}
use Rattle.ep_transfer_pieces.proofs.Planning.{alike_added, apart_added}
use Rattle.ep_transfer_pieces.proofs.puts.push_both.Goals as goal

pub push_alone-requires : goal.push_alone-requires
push_alone-requires g c = c.requires.left

pub push_alone-requires-2 : goal.push_alone-requires-2
push_alone-requires-2 g c = c.requires.right

pub push_together-requires-clause-some : goal.push_together-requires-clause-some
push_together-requires-clause-some g c =
    alike_some c.args.left.now.next.piece c.args.right.now.next.piece (sym c.are_alike.ensures ∙ c.if-are_alike.true)

pub push_together-requires-clause-right : goal.push_together-requires-clause-right
push_together-requires-clause-right g c =
    subst
    (λ p. AreSources g.N.Num.ops c.args.state.now (cells_of right) p
    (moved_spots c.args.offset (view c.args.from.now).right) c.args.right.now.sources)
    (sym (alike_is c.args.left.now.next.piece c.args.right.now.next.piece
    (sym c.are_alike.ensures ∙ c.if-are_alike.true)))
    c.requires.right

pub returns-then-are_alike : goal.returns-then-are_alike
returns-then-are_alike g c =
    IfOk-weaker c.push_together.result _ _
    (λ r h. alike_added g.N.Num.ops c.args.joint c.args.state.now (view c.args.from.now) c.args.puts.now.items
    c.push_together.new.puts.items c.args.offset c.args.left.now.next.piece c.args.right.now.next.piece
    (sym c.are_alike.ensures ∙ c.if-are_alike.true) h)
    c.push_together.ensures

pub returns : goal.returns
returns g c =
    IfOk-weaker c.push_alone-2.result _ _
    (λ r h. apart_added g.N.Num.ops c.args.joint c.args.state.now (view c.args.from.now) c.args.puts.now.items
    c.push_alone.new.puts.items c.push_alone-2.new.puts.items c.args.offset c.args.left.now.next.piece
    c.args.right.now.next.piece (sym c.are_alike.ensures ∙ c.if-are_alike.false)
    (c.in_ok-push_alone.ensures c.args.joint) (h c.args.joint))
    c.push_alone-2.ensures
