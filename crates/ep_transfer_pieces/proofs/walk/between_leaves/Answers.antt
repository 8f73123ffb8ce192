use Rattle.std.proofs.Common.{◌∙◌, subst}
use Rattle.ep_transfer_pieces.specs.declared.walk.Piece.TheVariants.{Byte}
use Rattle.ep_transfer_pieces.specs.Puts.{AreSources}
use Rattle.ep_transfer_pieces.proofs.walk.between_leaves.Goals as goal

pub returns-clause-sources : goal.returns-clause-sources
returns-clause-sources g c =
    subst (λ qs. AreSources g.N.Num.ops c.args.state.now c.args.side Byte qs c.in_ok-sources.sources)
    (c.deref.ensures.value ∙ c.in_ok-moved.ensures) c.in_ok-sources.ensures
