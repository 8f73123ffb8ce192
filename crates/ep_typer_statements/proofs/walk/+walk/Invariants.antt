use Rattle.std.proofs.Common.{◌≡◌, drop}
use Rattle.ep_scopes.specs.Known.{IsKnownEnv}
use Rattle.ep_scopes.specs.View.{env}
use Rattle.ep_typer_statements.specs.View.{lines}
use Rattle.ep_typer_statements.proofs.Lists.{ahead, all_parts, all_statements}
use Rattle.ep_typer_statements.proofs.walk.+walk.Given as goal

abbrev pub invariant-statements-loop-tree : goal.invariant-statements-loop-tree
invariant-statements-loop-tree l = record {
  known : IsKnownEnv (env l.env);
  means : ahead (lines l.lines) (all_statements l.fn.result_type l.fn.in_loop (env l.env) (drop l.tree-index l.list))
      ≡ all_statements l.fn.result_type l.fn.in_loop (env l.fn.env) l.list;
}

abbrev pub invariant-part_list-loop-tree : goal.invariant-part_list-loop-tree
invariant-part_list-loop-tree l = record {
  known : IsKnownEnv (env l.env);
  means : ahead (lines l.lines) (all_parts l.fn.result_type l.fn.in_loop (env l.env) (drop l.tree-index l.list))
      ≡ all_parts l.fn.result_type l.fn.in_loop (env l.fn.env) l.list;
}
