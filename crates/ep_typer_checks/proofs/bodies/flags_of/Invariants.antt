use Rattle.std.proofs.Common.{drop, take}
use Rattle.ep_call_graph.specs.View.{AreBelow}
use Rattle.ep_call_graph.specs.Visit.{AreFlags}
use Rattle.ep_typer_checks.proofs.bodies.flags_of.Given as goal

abbrev pub invariant-loop-number : goal.invariant-loop-number
invariant-loop-number l = record {
  flags : AreFlags l.count l.all.items (take l.number-index l.numbers);
  below : AreBelow l.count (drop l.number-index l.numbers);
}
