use Rattle.std.proofs.Common.{map}
use Rattle.std.proofs.lemmas.Result.{err_from_is_err_and}
use Rattle.ep_ast.specs.Statement.{item_of}
use Rattle.ep_defined.specs.View.{sofar}
use Rattle.ep_typer.specs.View.{program}
use Rattle.ep_typer.proofs.Elaborating.{all_elaborated, checks_stop, text_stops}
use Rattle.ep_typer.proofs.Small.{numbers_below}
use Rattle.ep_typer.proofs.whole.parts_of_program.Goals as goal

pub returns-in_err-sofar : goal.returns-in_err-sofar
returns-in_err-sofar c =
    let p = err_from_is_err_and c.from_residual.result c.from_residual.ensures.1 in
    rw (p.1, p.2) (text_stops c.args.model c.deref.result.now c.args.tree.now.items.items c.deref.ensures.value
    c.in_err-sofar.field-0.0 c.in_err-sofar.ensures)

pub order_of-requires : goal.order_of-requires
order_of-requires c =
    numbers_below c.args.model (map item_of c.deref.result.now) (sofar c.in_ok-sofar.sofar) c.in_ok-sofar.ensures

pub returns-in_err-order : goal.returns-in_err-order
returns-in_err-order c =
    let p = err_from_is_err_and c.from_residual-in_err-order.result c.from_residual-in_err-order.ensures.1 in
    rw (p.1, p.2) (checks_stop c.args.model c.deref.result.now c.args.tree.now.items.items c.deref.ensures.value
    (sofar c.in_ok-sofar.sofar) c.in_ok-sofar.ensures c.deref-2.result.now c.deref-2.ensures.value
    c.in_err-order.field-0.0 c.in_err-order.ensures.means)

pub made-requires-clause-numbers : goal.made-requires-clause-numbers
made-requires-clause-numbers c =
    numbers_below c.args.model (map item_of c.deref.result.now) (sofar c.in_ok-sofar.sofar) c.in_ok-sofar.ensures

pub returns : goal.returns
returns c =
    all_elaborated c.args.model c.deref.result.now c.args.tree.now.items.items c.deref.ensures.value
    (sofar c.in_ok-sofar.sofar) c.in_ok-sofar.ensures c.deref-2.result.now c.deref-2.ensures.value
    c.in_ok-order.order.main c.in_ok-order.order.order.items (program c.in_ok-parts.parts)
    c.in_ok-order.ensures.means c.in_ok-order.ensures.order c.in_ok-parts.ensures
