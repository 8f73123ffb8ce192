use Rattle.std.proofs.Common.{drop}
use Rattle.ep_transfer_pieces.proofs.Looking.{WholeLeft}
use Rattle.ep_transfer_pieces.proofs.sources.whole_sources.Given as goal

abbrev pub invariant-loop-q : goal.invariant-loop-q
invariant-loop-q g l =
    WholeLeft g.N.Num.ops l.state l.side l.what l.spots (drop l.q-index l.spots) l.reads.items l.shared
