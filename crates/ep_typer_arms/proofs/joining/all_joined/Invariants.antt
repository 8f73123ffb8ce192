use Rattle.std.proofs.Common.{◌≡◌, ◌++◌, drop, map}
use Rattle.std.specs.Vec.Iter.{into_iter_items}
use Rattle.ep_ast.specs.Statement.{function_of}
use Rattle.ep_defined.specs.View.{defined}
use Rattle.ep_elaboration.specs.Functions.{all_joined}
use Rattle.ep_typer_functions.specs.BodyView.{body}
use Rattle.ep_typer_arms.proofs.joining.all_joined.Given as goal

abbrev pub invariant-loop-tree : goal.invariant-loop-tree
invariant-loop-tree l =
    map defined l.all.items
    ++ all_joined l.fn.line l.fn.order (map function_of (drop l.tree-index l.trees)) (map defined (into_iter_items l.ones))
    (map body (into_iter_items l.others))
    ≡ all_joined l.fn.line l.fn.order (map function_of l.trees) (map defined l.fn.defined.items) (map body l.fn.bodies.items)
