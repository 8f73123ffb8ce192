use Rattle.std.proofs.Common.{◌+◌, ◌^◌, ◌≤◌, refl, ap, sym, subst, ◌∙◌, arith}
use Rattle.std.proofs.lemmas.Result.{IfOk-weaker}
use Rattle.ep_transfer_places.specs.Room.{view as shown_places}
use Rattle.ep_transfer_writes.specs.Waiting.{view, item_view, CanStand}
use Rattle.ep_transfer_writes.specs.Running.{range_written}
use Rattle.ep_transfer_writes.proofs.Placing.{run_room}
use Rattle.ep_transfer_writes.proofs.Running.{run_at_once, run_byte, run_offset}
use Rattle.ep_transfer_writes.proofs.runs.write_at_one.Goals as goal

pub item_cell-requires-clause-room : goal.item_cell-requires-clause-room
item_cell-requires-clause-room g c =
    let room = run_room c.args.mode c.args.same_to (shown_places c.args.places.now) (item_view c.args.u.item)
    c.args.at.0 c.args.at.1 c.args.bytes c.requires.runs c.requires.room.left c.requires.room.right in
    let some = c.if-is_whole.ensures.some refl in
    omega (arith, room, some)

pub write_range-requires-clause-byte : goal.write_range-requires-clause-byte
write_range-requires-clause-byte g c =
    let D = g.N.Num.ops in
    ap (λ x. x.what) c.in_ok-c.ensures.value
    ∙ run_byte D c.split_laws.ensures c.more_split_laws.ensures c.replace_laws.ensures c.args.at.0
    (item_view c.args.u.item) c.args.at.1

pub write_range-requires-clause-room : goal.write_range-requires-clause-room
write_range-requires-clause-room g c =
    let D = g.N.Num.ops in
    subst (λ q. q + c.args.bytes ≤ 2 ^ 32)
    (sym (ap (λ x. x.offset) c.in_ok-c.ensures.value
    ∙ run_offset D c.split_laws.ensures c.more_split_laws.ensures c.replace_laws.ensures c.args.at.0
    (item_view c.args.u.item) c.args.at.1))
    (run_room c.args.mode c.args.same_to (shown_places c.args.places.now) (item_view c.args.u.item) c.args.at.0
    c.args.at.1 c.args.bytes c.requires.runs c.requires.room.left c.requires.room.right)

pub returns-then-is_whole-clause-value : goal.returns-then-is_whole-clause-value
returns-then-is_whole-clause-value g c =
    let D = g.N.Num.ops in
    IfOk-weaker c.write_range.result _ _
    (λ r h. h
    ∙ ap (λ x. range_written D x c.args.bytes (view c.args.u)) c.in_ok-c.ensures.value
    ∙ sym (run_at_once D c.split_laws.ensures c.more_split_laws.ensures c.replace_laws.ensures c.args.mode c.args.same_to
    (shown_places c.args.places.now) c.args.at.0 c.args.at.1 c.args.bytes (view c.args.u)
    (c.if-is_whole.ensures.some refl)
    c.requires.runs (subst (CanStand c.args.u.state) c.in_ok-c.ensures.value c.in_ok-c.ensures.stands)
    c.model.ensures.cells (c.if-is_whole.ensures.uncut refl) c.requires.item
    (run_room c.args.mode c.args.same_to (shown_places c.args.places.now) (item_view c.args.u.item) c.args.at.0
    c.args.at.1 c.args.bytes c.requires.runs c.requires.room.left c.requires.room.right)))
    c.write_range.ensures.value
