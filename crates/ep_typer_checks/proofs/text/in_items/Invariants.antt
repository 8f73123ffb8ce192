use Rattle.std.proofs.Common.{drop, map}
use Rattle.ep_ast.specs.Statement.{item_of}
use Rattle.ep_elaboration.specs.Calls.{in_items}
use Rattle.ep_scopes.specs.View.{env}
use Rattle.ep_typer_checks.specs.View.{number, call_site_of}
use Rattle.ep_typer_checks.proofs.Adding.{Goes}
use Rattle.ep_typer_checks.proofs.text.in_items.Given as goal

abbrev pub invariant-loop-item : goal.invariant-loop-item
invariant-loop-item l =
    Goes (call_site_of (number (env l.env))) l.fn.all.items l.all.items (in_items (map item_of (drop l.item-index l.items)))
    (in_items (map item_of l.items))
