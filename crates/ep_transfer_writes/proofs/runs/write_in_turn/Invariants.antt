use Rattle.std.proofs.Common.{◌≡◌, ◌-◌}
use Rattle.ep_int.specs.declared.types.IntType.TheVariants.{U8}
use Rattle.ep_int.specs.declared.types.Scalar.TheVariants.{Int}
use Rattle.ep_transfers.specs.Writes as spec
use Rattle.ep_transfer_places.specs.Room.{view as shown_places}
use Rattle.ep_transfer_writes.specs.Waiting.{view, Keeps}
use Rattle.ep_transfer_writes.proofs.runs.write_in_turn.Given as goal

abbrev pub invariant-loop-i : goal.invariant-loop-i
invariant-loop-i g l = record {
  value : spec.write_run g.N.Num.ops l.mode l.same_to (Int U8) (shown_places l.places) l.i (l.bytes - l.i)
      (view l.after)
      ≡ spec.write_run g.N.Num.ops l.mode l.same_to (Int U8) (shown_places l.places) 0 l.bytes (view l.fn.u);
  keeps : Keeps (view l.fn.u) (view l.after);
}
