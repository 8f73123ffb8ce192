use Rattle.std.proofs.Common.{◌≡◌, drop, map}
use Rattle.ep_ast.specs.Statement.{item_of}
use Rattle.ep_defined.specs.View.{sofar}
use Rattle.ep_elaboration.specs.Functions.{numbers_of}
use Rattle.ep_elaboration.specs.ProgramSteps.{items}
use Rattle.ep_scopes.specs.Known.{IsKnownEnv}
use Rattle.ep_typer_arms.specs.FileEnvironments.{IsBehind}
use Rattle.ep_typer_functions.specs.View.{AreDone}
use Rattle.ep_typer.proofs.walk.items.Given as goal

abbrev pub invariant-loop-tree : goal.invariant-loop-tree
invariant-loop-tree l = record {
  known : IsKnownEnv (sofar l.sofar).env;
  behind : IsBehind (sofar l.sofar);
  done : AreDone l.done (numbers_of (sofar l.sofar).defined);
  means : items (sofar l.sofar) (map item_of (drop l.tree-index l.list)) ≡ items (sofar l.fn.sofar) (map item_of l.list);
}
