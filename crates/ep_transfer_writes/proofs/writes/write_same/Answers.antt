use Rattle.std.proofs.Common.{ap, sym, subst, ◌∙◌}
use Rattle.std.proofs.lemmas.Result.{IfOk-weaker}
use Rattle.ep_int.specs.Types.{size_of}
use Rattle.ep_transfers.specs.Writes as spec
use Rattle.ep_transfer_places.specs.Room.{HaveRoom}
use Rattle.ep_transfer_writes.specs.Waiting.{view}
use Rattle.ep_transfer_writes.proofs.Placing.{all_room, all_are, one_are, at_places, same_is}
use Rattle.ep_transfer_writes.proofs.writes.write_same.Goals as goal

pub write_shared_each-requires-clause-room : goal.write_shared_each-requires-clause-room
write_shared_each-requires-clause-room g c =
    let n = size_of c.args.u.state.model c.args.what in
    subst (HaveRoom n)
    (sym (all_are c.deref-in-None.ensures.value c.deref-in-None-2.ensures.value c.in_ok-all-in-None.ensures
    c.deref-in-None-3.ensures.value))
    (all_room n c.args.places.now.left.items c.args.places.now.right.items c.requires.room.left c.requires.room.right)

pub returns-in_ok-all-in-None-clause-value : goal.returns-in_ok-all-in-None-clause-value
returns-in_ok-all-in-None-clause-value g c =
    let D = g.N.Num.ops in
    let qs = c.args.places.now.left.items in
    let rs = c.args.places.now.right.items in
    IfOk-weaker c.write_shared_each.result _ _
    (λ r h. h
    ∙ ap (λ all. spec.write_shared_each D c.args.what all (view c.args.u))
    (all_are c.deref-in-None.ensures.value c.deref-in-None-2.ensures.value c.in_ok-all-in-None.ensures
    c.deref-in-None-3.ensures.value)
    ∙ sym (ap (λ o. at_places D c.args.what qs rs o (view c.args.u))
    (one_are c.deref.ensures.value c.deref-2.ensures.value c.one_spot.ensures c.in-None.is))
    ∙ sym (same_is D c.args.what qs rs (view c.args.u)))
    c.write_shared_each.ensures.value
