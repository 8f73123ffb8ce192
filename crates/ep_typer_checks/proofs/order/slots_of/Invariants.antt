use Rattle.std.proofs.Common.{◌≡◌, ℕ, map, vec_len}
use Rattle.std.specs.Vec.Iter.{into_iter_items}
use Rattle.ep_call_graph.specs.View.{AreBelow}
use Rattle.ep_defined.specs.View.{defined}
use Rattle.ep_elaboration.specs.Functions.{numbers_of}
use Rattle.ep_elaboration.specs.Programs.{numbered}
use Rattle.ep_typer_checks.specs.Placed.{function_in, slot}
use Rattle.ep_typer_checks.proofs.Placing.{or_later}
use Rattle.ep_typer_checks.proofs.order.slots_of.Given as goal

abbrev pub invariant-loop-one : goal.invariant-loop-one
invariant-loop-one l = record {
  count : vec_len l.slots ≡ l.count;
  below : AreBelow l.count (numbers_of (map defined (into_iter_items l.one-iterator)));
  slots : (f : ℕ) → or_later (slot l.slots.items f) (function_in (numbered (map defined (into_iter_items l.one-iterator)) f))
      ≡ function_in (numbered (map defined l.fn.defined.items) f);
}
