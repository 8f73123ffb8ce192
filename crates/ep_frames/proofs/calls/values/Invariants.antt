use Rattle.std.proofs.Common.{◌≡◌, drop, map}
use Rattle.std.specs.List.{AllByRecursion}
use Rattle.ep_bytes.specs.StoreView.{memory_in}
use Rattle.ep_bytes.specs.View.{value_in}
use Rattle.ep_core.specs.Exec.{values}
use Rattle.ep_core.specs.View.{expr_view}
use Rattle.ep_machine.specs.Settings.{program_in, ExprFits}
use Rattle.ep_frames.proofs.Binds.{ahead}
use Rattle.ep_frames.proofs.calls.values.Given as goal

abbrev pub invariant-loop-e : goal.invariant-loop-e
invariant-loop-e l = record {
  typed : AllByRecursion (λ e. ExprFits l.on (memory_in l.machine.store) (expr_view e)) (drop l.e-index l.arguments);
  rest : values l.on.order (program_in l.on) (map expr_view l.arguments) (memory_in l.machine.store)
      ≡ ahead (map value_in l.all.items)
      (values l.on.order (program_in l.on) (map expr_view (drop l.e-index l.arguments)) (memory_in l.machine.store));
}
