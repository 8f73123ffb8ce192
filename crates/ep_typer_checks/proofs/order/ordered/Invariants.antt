use Rattle.std.proofs.Common.{◌≡◌, ◌++◌, ℕ, false, take, drop, map, vec_len}
use Rattle.ep_int.specs.Memory.{contains}
use Rattle.ep_core.specs.View.{function_view}
use Rattle.ep_call_graph.specs.View.{AreBelow}
use Rattle.ep_defined.specs.View.{defined}
use Rattle.ep_elaboration.specs.Programs.{all_in_order, numbered}
use Rattle.ep_typer_checks.specs.Placed.{AreOnce, function_in, slot}
use Rattle.ep_typer_checks.proofs.order.ordered.Given as goal

abbrev pub invariant-loop-f : goal.invariant-loop-f
invariant-loop-f l = record {
  count : vec_len l.slots ≡ l.count;
  once : AreOnce (take l.f-index l.order) (drop l.f-index l.order);
  below : AreBelow l.count (drop l.f-index l.order);
  left : (g : ℕ) → contains g (take l.f-index l.order) ≡ false
      → slot l.slots.items g ≡ function_in (numbered (map defined l.fn.defined.items) g);
  done : map function_view l.functions.items
      ++ all_in_order l.order (map defined l.fn.defined.items) (drop l.f-index l.order)
      ≡ all_in_order l.order (map defined l.fn.defined.items) l.order;
}
