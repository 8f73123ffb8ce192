use Rattle.std.proofs.Common.{◌≡◌, drop, map}
use Rattle.ep_ast.specs.Expression as source
use Rattle.ep_typing.specs.Typing.{typed_all}
use Rattle.ep_operands.specs.View as view
use Rattle.ep_scopes.specs.View.{env}
use Rattle.ep_typer_exprs.proofs.WalkLemmas.{ahead}
use Rattle.ep_typer_exprs.proofs.walk.+walk.Given as goal

abbrev pub invariant-typed_all-loop-tree : goal.invariant-typed_all-loop-tree
invariant-typed_all-loop-tree l =
    ahead (map view.value l.all.items) (typed_all (env l.env) l.fn.line (source.to_exprs (map source.expr (drop l.tree-index l.list))))
    ≡ typed_all (env l.env) l.fn.line (source.to_exprs (map source.expr l.list))
