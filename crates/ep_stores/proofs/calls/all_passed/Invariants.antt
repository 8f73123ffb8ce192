use Rattle.std.proofs.Common.{◌≡◌, ◌≤◌, drop, length, map}
use Rattle.std.specs.Option.{option_map}
use Rattle.std.specs.Vec.Iter.{into_iter_items}
use Rattle.ep_ast.specs.Kind.{number_of}
use Rattle.ep_core.specs.View.{expr_view}
use Rattle.ep_typing.specs.Calls.{all_passed}
use Rattle.ep_stores.specs.Passing.{after}
use Rattle.ep_stores.specs.View as view
use Rattle.ep_stores.proofs.calls.all_passed.Given as goal

abbrev pub invariant-loop-value : goal.invariant-loop-value
invariant-loop-value l = record {
  within : l.place ≤ length l.parameters;
  means : after (option_map number_of l.kind) (map expr_view l.arguments.items) (all_passed (map view.parameter (drop l.place l.parameters)) (map view.value (into_iter_items l.value-iterator)))
      ≡ all_passed (map view.parameter l.parameters) (map view.value l.fn.values.items);
}
