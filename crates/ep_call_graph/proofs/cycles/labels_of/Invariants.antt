use Rattle.std.proofs.Common.{◌≡◌, map, take}
use Rattle.ep_call_graph.specs.Search.{label_of}
use Rattle.ep_call_graph.proofs.cycles.labels_of.Given as goal

abbrev pub invariant-loop-mark : goal.invariant-loop-mark
invariant-loop-mark l = l.all.items ≡ map label_of (take l.mark-index l.marks)
