use Rattle.std.proofs.Common.{◌+◌, arith}
use Rattle.ep_int.specs.declared.types.IntType.TheVariants.{U8}
use Rattle.ep_int.specs.declared.types.Scalar.TheVariants.{Int}
use Rattle.ep_transfer_places.specs.Room.{view as shown_places}
use Rattle.ep_transfer_places.proofs.Moving.{less_both}
use Rattle.ep_transfer_writes.specs.Waiting.{view}
use Rattle.ep_transfer_writes.proofs.Changing.{then_keeps}
use Rattle.ep_transfer_writes.proofs.Turns.{next_turn}
use Rattle.ep_transfer_writes.proofs.runs.write_in_turn.Goals as goal

pub write_byte-requires-clause-room : goal.write_byte-requires-clause-room
write_byte-requires-clause-room g c =
    less_both c.args.bytes (c.loop-i.i + 1) (shown_places c.args.places.now) (omega arith) c.requires.room

pub loop-i-preserved : goal.loop-i-preserved
loop-i-preserved g c = record {
  value = next_turn g.N.Num.ops c.args.mode c.args.same_to (Int U8) (shown_places c.args.places.now) c.args.bytes
      c.loop-i.i (view c.loop-i.after) (view c.in_ok-after.after) _ (omega arith) c.in_ok-after.ensures.value
      c.loop-i.invariant.value;
  keeps = then_keeps (view c.args.u) (view c.loop-i.after) (view c.in_ok-after.after)
      c.loop-i.invariant.keeps c.in_ok-after.ensures.keeps;
}
