use Rattle.std.proofs.Common.{List, map, ap, ◌∙◌, subst}
use Rattle.ep_ast.specs.declared.statements.BlockItemTree.{BlockItemTree}
use Rattle.ep_ast.specs.Statement.{part_of, to_parts}
use Rattle.ep_elaboration.specs.Calls.{stands_in_parts}
use Rattle.ep_scopes.specs.View.{env}
use Rattle.ep_typer_checks.specs.View.{Adds, number, call_site}
use Rattle.ep_typer_checks.proofs.Adding.{with_name}
use Rattle.ep_typer_checks.proofs.text.in_function.Goals as goal

pub returns : goal.returns
returns c =
    with_name (number (env c.args.env.now)) c.args.function.now.head.name.items c.in_ok-caller.caller c.args.all.now.items c.parts.new.all.items
    (stands_in_parts c.args.round (to_parts (map part_of c.args.function.now.body.items.items)))
    (c.in_ok-caller.ensures.means ∙ ap (number (env c.args.env.now)) c.deref.ensures.value)
    (subst (λ (xs : List BlockItemTree). Adds (call_site (number (env c.args.env.now)) c.in_ok-caller.caller) c.args.all.now.items c.parts.new.all.items
    (stands_in_parts c.args.round (to_parts (map part_of xs)))) c.deref-2.ensures.value c.in_ok-parts.ensures)
