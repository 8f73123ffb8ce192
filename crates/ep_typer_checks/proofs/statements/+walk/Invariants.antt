use Rattle.std.proofs.Common.{drop, map}
use Rattle.ep_ast.specs.Statement.{part_of, stmt_of, to_parts, to_stmts}
use Rattle.ep_elaboration.specs.Calls.{stands_in_parts, stands_in_stmts}
use Rattle.ep_scopes.specs.View.{env}
use Rattle.ep_typer_checks.specs.View.{number, call_site}
use Rattle.ep_typer_checks.proofs.Adding.{Goes}
use Rattle.ep_typer_checks.proofs.statements.+walk.Given as goal

abbrev pub invariant-statements-loop-tree : goal.invariant-statements-loop-tree
invariant-statements-loop-tree l =
    Goes (call_site (number (env l.env)) l.caller) l.fn.all.items l.all.items
    (stands_in_stmts l.round (to_stmts (map stmt_of (drop l.tree-index l.list))))
    (stands_in_stmts l.round (to_stmts (map stmt_of l.list)))

abbrev pub invariant-parts-loop-tree : goal.invariant-parts-loop-tree
invariant-parts-loop-tree l =
    Goes (call_site (number (env l.env)) l.caller) l.fn.all.items l.all.items
    (stands_in_parts l.round (to_parts (map part_of (drop l.tree-index l.list))))
    (stands_in_parts l.round (to_parts (map part_of l.list)))
