use Rattle.std.proofs.Common.{ap, ◌∙◌}
use Rattle.ep_int.specs.Types.{size_of}
use Rattle.ep_transfers.specs.Places.{moved_spots}
use Rattle.ep_transfer_pieces.specs.Walked.{all_exact, next_leaf}
use Rattle.ep_transfer_pieces.proofs.Looking.{of_next}
use Rattle.ep_transfer_pieces.proofs.walk.begun_leaf.Goals as goal

pub returns-in-None-clause-next : goal.returns-in-None-clause-next
returns-in-None-clause-next g c =
    let D = g.N.Num.ops in
    let k = c.args.state.now in
    let t = rw c.in-None.is at c.in_ok-whole_sources.ensures.exact in
    c.next_leaf-next.ensures
    ∙ ap (λ b. next_leaf b c.args.walk c.args.offset c.args.what c.size-size.result)
    (t ∙ ap (all_exact D k c.args.side c.args.what) (c.deref.ensures.value ∙ c.in_ok-moved.ensures))
    ∙ ap (next_leaf (all_exact D k c.args.side c.args.what (moved_spots c.args.offset c.args.spots.now)) c.args.walk
    c.args.offset c.args.what)
    (c.size-size.ensures.value ∙ ap (λ m. size_of m c.args.what) c.model.ensures.value)

pub returns-in-None-clause-sources : goal.returns-in-None-clause-sources
returns-in-None-clause-sources g c =
    of_next g.N.Num.ops c.args.state.now c.args.side c.next_leaf-next.result _ _ _ c.in_ok-sources-in-None.sources
    c.next_leaf-next.ensures (c.deref-in-None.ensures.value ∙ c.in_ok-moved.ensures) c.in_ok-sources-in-None.ensures
