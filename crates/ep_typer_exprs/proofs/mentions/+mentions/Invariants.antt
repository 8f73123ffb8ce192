use Rattle.std.proofs.Common.{◌≡◌, drop, map}
use Rattle.ep_ast.specs.Expression as source
use Rattle.ep_typing.specs.Names.{mentioned_all}
use Rattle.ep_scopes.specs.Known.{IsKnownEnv}
use Rattle.ep_scopes.specs.View.{env}
use Rattle.ep_typer_exprs.proofs.mentions.+mentions.Given as goal

abbrev pub invariant-mention_all-loop-tree : goal.invariant-mention_all-loop-tree
invariant-mention_all-loop-tree l = record {
  known : IsKnownEnv (env l.env);
  means : mentioned_all (env l.env) (source.to_exprs (map source.expr (drop l.tree-index l.list)))
      ≡ mentioned_all (env l.fn.env) (source.to_exprs (map source.expr l.list));
}
