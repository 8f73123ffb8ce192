use Rattle.std.proofs.Common.{◌∙◌, ap, subst, ◌++◌}
use Rattle.ep_bitslice.specs.declared.cell.Side.TheVariants as cell_side
use Rattle.ep_transfers.specs.Places.{moved_spots}
use Rattle.ep_transfer_outputs.specs.Bytes.{AreReads}
use Rattle.ep_transfer_places.specs.Room.{view}
use Rattle.ep_transfer_outputs.proofs.Runs.{pair_is, faults_are}
use Rattle.ep_transfer_outputs.proofs.bytes.byte_pair.Goals as goal

pub returns-clause-value : goal.returns-clause-value
returns-clause-value g c =
    pair_is g.N.Num.ops c.args.mode c.args.same_from c.args.state.now (view c.args.places.now) c.args.byte
    c.in_ok-left.left c.in_ok-right.right (subst (λ qs. AreReads g.N.Num.ops c.args.state.now cell_side.Left (moved_spots c.args.byte qs) c.in_ok-left.left)
    c.deref.ensures.value c.in_ok-left.ensures)
    (subst (λ qs. AreReads g.N.Num.ops c.args.state.now cell_side.Right (moved_spots c.args.byte qs) c.in_ok-right.right)
    c.deref-2.ensures.value c.in_ok-right.ensures) c.all_shared-shared.result
    c.all_shared-shared.ensures c.pair_on.result c.pair_on.ensures

pub returns-clause-faults : goal.returns-clause-faults
returns-clause-faults g c =
    c.in_ok-note_reads.ensures
    ∙ ap (λ fs. c.args.faults.now.items ++ fs)
    (faults_are g.N.Num.ops c.args.mode c.args.same_from c.args.state.now (view c.args.places.now) c.args.byte
    c.in_ok-left.left c.in_ok-right.right (subst (λ qs. AreReads g.N.Num.ops c.args.state.now cell_side.Left (moved_spots c.args.byte qs) c.in_ok-left.left)
    c.deref.ensures.value c.in_ok-left.ensures)
    (subst (λ qs. AreReads g.N.Num.ops c.args.state.now cell_side.Right (moved_spots c.args.byte qs) c.in_ok-right.right)
    c.deref-2.ensures.value c.in_ok-right.ensures))
