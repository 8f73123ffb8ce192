use Rattle.std.proofs.Common.{◌≡◌, drop, map}
use Rattle.std.specs.Option.{option_map}
use Rattle.ep_ast.specs.Expression.{expr}
use Rattle.ep_elaboration.specs.Declarators.{bounds}
use Rattle.ep_scopes.specs.Comes.{Comes}
use Rattle.ep_scopes.specs.View.{env}
use Rattle.ep_declared.specs.Counts.{behind}
use Rattle.ep_declared.specs.Open.{Follows}
use Rattle.ep_declared.proofs.counts.bounds_behind.Given as goal

abbrev pub invariant-loop-tree : goal.invariant-loop-tree
invariant-loop-tree l = record {
  means : behind l.counts.items (bounds (env l.env) l.fn.line (map (option_map expr) (drop l.tree-index l.list)))
      ≡ behind l.fn.done.items (bounds (env l.fn.env) l.fn.line (map (option_map expr) l.list));
  after : Follows (env l.fn.env) (env l.env);
  comes : Comes (env l.fn.env) (env l.env);
}
