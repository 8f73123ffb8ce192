use Rattle.std.proofs.Common.{◌≡◌, ◌++◌, map}
use Rattle.std.specs.Vec.Iter.{into_iter_items}
use Rattle.ep_core.specs.View.{what_view}
use Rattle.ep_typer_declarations.specs.View as view
use Rattle.ep_typer_declarations.proofs.made.add_statements.Given as goal

abbrev pub invariant-loop-what : goal.invariant-loop-what
invariant-loop-what l =
    map view.line l.lines.items ++ map (λ w. (l.fn.line, what_view w)) (into_iter_items l.what-iterator)
    ≡ map view.line l.fn.lines.items ++ map (λ w. (l.fn.line, what_view w)) l.fn.statements.items
