use Rattle.std.proofs.Common.{ℕ, List, drop}
use Rattle.ep_scopes.specs.Known.{IsKnownEnv}
use Rattle.ep_scopes.specs.View.{env}
use Rattle.ep_typer_functions.specs.View.{AreDone}
use Rattle.ep_typer_arms.proofs.Gathering.{FirstsLeft, firsts}
use Rattle.ep_typer_arms.proofs.arms.functions_defined.Given as goal

abbrev pub invariant-loop-tree : goal.invariant-loop-tree
invariant-loop-tree l = record {
  known : IsKnownEnv (env l.env);
  means : (ds : List ℕ) → AreDone l.fn.done ds
      → FirstsLeft (env l.env) l.marked (drop l.tree-index l.list) l.all.items (firsts (env l.fn.env) ds l.list);
}
