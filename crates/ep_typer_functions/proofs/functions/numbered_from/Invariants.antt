use Rattle.std.proofs.Common.{◌≡◌, ◌++◌, drop}
use Rattle.ep_elaboration.specs.Functions.{numbered_from}
use Rattle.ep_typer_functions.proofs.functions.numbered_from.Given as goal

abbrev pub invariant-loop-c : goal.invariant-loop-c
invariant-loop-c l = l.all.items ++ numbered_from l.block (drop l.c-index l.params) ≡ numbered_from l.fn.first l.params
