use Rattle.std.proofs.Common.{ℕ, List, drop}
use Rattle.ep_scopes.specs.Known.{IsKnownEnv}
use Rattle.ep_scopes.specs.View.{env}
use Rattle.ep_typer_functions.specs.View.{AreDone}
use Rattle.ep_typer_arms.proofs.Gathering.{OthersLeft, others}
use Rattle.ep_typer_arms.proofs.arms.others_typed.Given as goal

abbrev pub invariant-loop-place : goal.invariant-loop-place
invariant-loop-place l = record {
  known : IsKnownEnv (env l.env);
  means : (ds : List ℕ) → AreDone l.fn.done ds
      → OthersLeft (env l.env) l.marked (drop l.place l.defined) (drop l.place l.list) l.all.items
      (others (env l.fn.env) ds l.defined l.list);
}
