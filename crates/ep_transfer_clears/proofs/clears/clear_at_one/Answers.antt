use Rattle.std.proofs.Common.{◌∙◌, sym, refl}
use Rattle.std.proofs.lemmas.Result.{IfOk-weaker}
use Rattle.ep_transfer_places.specs.Room.{view as shown_places}
use Rattle.ep_transfers.specs.Transfers.{undefined_item}
use Rattle.ep_transfer_writes.proofs.Placing.{run_room}
use Rattle.ep_transfer_clears.proofs.AtOnce.{cleared_at_once}
use Rattle.ep_transfer_clears.proofs.clears.clear_at_one.Goals as goal

pub clear_range-requires-clause-room : goal.clear_range-requires-clause-room
clear_range-requires-clause-room g c =
    run_room c.args.mode c.args.same_to (shown_places c.args.places.now) (undefined_item g.N.Num.ops) c.args.at.0
    c.args.at.1 c.args.bytes c.requires.runs c.requires.room.left c.requires.room.right

pub returns-then-is_whole : goal.returns-then-is_whole
returns-then-is_whole g c =
    IfOk-weaker c.clear_range.result _ _
    (λ r h. h
    ∙ sym (cleared_at_once g.N.Num.ops c.split_laws.ensures c.more_split_laws.ensures c.replace_laws.ensures
    c.args.state c.args.at.0 c.args.at.1 c.args.mode c.args.same_to (shown_places c.args.places.now) c.args.bytes
    c.args.leaves.now c.requires.runs c.requires.leaves
    (run_room c.args.mode c.args.same_to (shown_places c.args.places.now) (undefined_item g.N.Num.ops) c.args.at.0
    c.args.at.1 c.args.bytes c.requires.runs c.requires.room.left c.requires.room.right)
    (c.if-is_whole.ensures.some refl) c.model.ensures.cells (c.if-is_whole.ensures.uncut refl)))
    c.clear_range.ensures
