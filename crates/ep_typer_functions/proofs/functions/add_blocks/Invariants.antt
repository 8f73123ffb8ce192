use Rattle.std.proofs.Common.{◌≡◌, drop}
use Rattle.ep_elaboration.specs.Functions.{with_blocks}
use Rattle.ep_scopes.specs.Known.{IsKnownEnv}
use Rattle.ep_scopes.specs.View.{env}
use Rattle.ep_typer_functions.proofs.functions.add_blocks.Given as goal

abbrev pub invariant-loop-c : goal.invariant-loop-c
invariant-loop-c l = record {
  known : IsKnownEnv (env l.env);
  means : with_blocks (env l.env) (drop l.c-index l.list) ≡ with_blocks (env l.fn.env) l.list;
}
