use Rattle.std.proofs.Common.{◌≡◌, ℕ, List, drop, map}
use Rattle.ep_ast.specs.Statement.{function_of}
use Rattle.ep_elaboration.specs.FunctionSteps.{arms_agree}
use Rattle.ep_scopes.specs.View.{env}
use Rattle.ep_typer_functions.specs.View.{AreDone}
use Rattle.ep_typer_arms.proofs.alike.arms_agree.Given as goal

abbrev pub invariant-loop-place : goal.invariant-loop-place
invariant-loop-place l = record {
  means : (ds : List ℕ) → AreDone l.fn.done ds
      → arms_agree (env l.fn.env) ds (map function_of (drop l.place l.first)) (map function_of (drop l.place l.second))
      ≡ arms_agree (env l.fn.env) ds (map function_of l.first) (map function_of l.second);
  same : env l.env ≡ env l.fn.env;
}
