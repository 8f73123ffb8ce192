use Rattle.std.proofs.Common.{◌≡◌, drop}
use Rattle.ep_scopes.specs.Comes.{Comes}
use Rattle.ep_scopes.specs.Known.{IsKnownEnv}
use Rattle.ep_scopes.specs.View.{env}
use Rattle.ep_typer_functions.proofs.ParamLemmas.{ahead, declared}
use Rattle.ep_typer_functions.proofs.params.params_declared.Given as goal

abbrev pub invariant-loop-tree : goal.invariant-loop-tree
invariant-loop-tree l = record {
  known : IsKnownEnv (env l.env);
  means : ahead l.all.items (declared (env l.env) l.block (drop l.tree-index l.list)) ≡ declared (env l.fn.env) l.fn.first l.list;
  comes : Comes (env l.fn.env) (env l.env);
}
