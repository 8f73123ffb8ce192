use Rattle.std.proofs.Common.{List, ◌++◌, map, sym, ap, ◌∙◌, subst, length}
use Rattle.ep_ast.specs.Statement.{item_of}
use Rattle.ep_elaboration.specs.Calls as rule
use Rattle.ep_elaboration.specs.Calls.{in_items}
use Rattle.ep_call_graph.specs.View.{AreWithin, call_sites}
use Rattle.ep_scopes.specs.View.{env}
use Rattle.ep_call_graph.specs.declared.places.CallSite.{CallSite}
use Rattle.ep_typer_checks.specs.View.{number, call_site_of}
use Rattle.ep_typer_checks.proofs.Naming.{places_within}
use Rattle.ep_typer_checks.proofs.text.places_of.Goals as goal

pub returns-clause-within : goal.returns-clause-within
returns-clause-within c = λ some.
    subst (λ (ps : List rule.CallSite). AreWithin (length (env c.args.env.now).functions) ps)
    (sym (c.in_ok-in_items.ensures.items ∙ ap (λ (xs : List CallSite). call_sites xs ++ map (call_site_of (number (env c.args.env.now))) (in_items (map item_of c.args.items.now)))
    c.new-all.ensures.items))
    (places_within (env c.args.env.now).functions some (in_items (map item_of c.args.items.now)))
