use Rattle.std.proofs.Common.{List, map, refl}
use Rattle.ep_ast.specs.declared.statements.ItemTree.{ItemTree}
use Rattle.ep_ast.specs.Statement.{item_of}
use Rattle.ep_elaboration.specs.Calls.{in_item, in_items}
use Rattle.ep_scopes.specs.View.{env}
use Rattle.ep_typer_checks.specs.View.{number, call_site_of}
use Rattle.ep_typer_checks.proofs.Adding.{more, over}
use Rattle.ep_typer_checks.proofs.text.in_items.Goals as goal

pub loop-item-preserved : goal.loop-item-preserved
loop-item-preserved c =
    more (call_site_of (number (env c.args.env.now))) (λ (x : ItemTree). in_item (item_of x))
    (λ (xs : List ItemTree). in_items (map item_of xs)) c.args.items.now c.args.all.now.items c.loop-item.all.items
    c.in_item.new.all.items (in_items (map item_of c.args.items.now)) c.loop-item.item-index c.item-item.result
    c.loop-item-test.true c.item-item.is refl c.loop-item.invariant c.in_ok-in_item.ensures

pub returns : goal.returns
returns c =
    over (call_site_of (number (env c.args.env.now))) (λ (x : ItemTree). in_item (item_of x))
    (λ (xs : List ItemTree). in_items (map item_of xs)) c.args.items.now c.args.all.now.items c.loop-item.all.items
    (in_items (map item_of c.args.items.now)) c.loop-item.item-index c.loop-item-test.false refl c.loop-item.invariant
