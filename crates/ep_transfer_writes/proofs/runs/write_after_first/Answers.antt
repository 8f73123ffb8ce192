use Rattle.std.proofs.Common.{◌≡◌, ◌+◌, ◌-◌, ap, sym, subst, ◌∙◌, arith}
use Rattle.ep_int.specs.declared.types.IntType.TheVariants.{U8}
use Rattle.ep_int.specs.declared.types.Scalar.TheVariants.{Int}
use Rattle.ep_transfers.specs.Writes as spec
use Rattle.ep_transfer_places.specs.Room.{BothHaveRoom, view as shown_places}
use Rattle.ep_transfer_places.proofs.Moving.{less_both, moved_both}
use Rattle.ep_transfer_writes.specs.Waiting.{view}
use Rattle.ep_transfer_writes.proofs.Turns.{in_two_of}
use Rattle.ep_transfer_writes.proofs.runs.write_after_first.Goals as goal

pub write_part-requires-clause-room : goal.write_part-requires-clause-room
write_part-requires-clause-room g c =
    let more = c.requires.more in
    less_both c.args.bytes 1 (shown_places c.args.places.now) (omega (arith, more)) c.requires.room

pub moved_places-requires : goal.moved_places-requires
moved_places-requires g c =
    let more = c.requires.more in
    less_both c.args.bytes (1 + 1) (shown_places c.args.places.now) (omega (arith, more)) c.requires.room

pub write_to_end-requires-clause-room : goal.write_to_end-requires-clause-room
write_to_end-requires-clause-room g c =
    let more = c.requires.more in
    let all : 1 + (c.args.bytes - 1) ≡ c.args.bytes = omega (arith, more) in
    subst (BothHaveRoom (c.args.bytes - 1)) (sym c.in_ok-moved.ensures)
    (moved_both 1 (c.args.bytes - 1) (shown_places c.args.places.now)
    (subst (λ n. BothHaveRoom n (shown_places c.args.places.now)) (sym all) c.requires.room))

pub returns-clause-value : goal.returns-clause-value
returns-clause-value g c =
    let D = g.N.Num.ops in
    let more = c.requires.more in
    let all : 1 + (c.args.bytes - 1) ≡ c.args.bytes = omega (arith, more) in
    in_two_of D c.args.mode c.args.same_to (Int U8) (shown_places c.args.places.now) 1 (c.args.bytes - 1) c.args.bytes
    (view c.args.u) (view c.in_ok-before.before) (view c.in_ok-after.after) all c.in_ok-before.ensures.value
    (c.in_ok-after.ensures.value
    ∙ ap (λ ps. spec.write_run D c.args.mode c.args.same_to (Int U8) ps 0 (c.args.bytes - 1)
    (view c.in_ok-before.before)) c.in_ok-moved.ensures)
