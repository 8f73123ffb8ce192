use Rattle.std.proofs.lemmas.Result.{err_from_is_err_and}
use Rattle.ep_core.specs.View.{what_view}
use Rattle.ep_declared.specs.View as objects
use Rattle.ep_given.specs.View as view
use Rattle.ep_given.proofs.FirstLemmas.{field_begins, field_stops}
use Rattle.ep_typer_exprs.specs.View.{field_place}
use Rattle.ep_given.proofs.first.field_begun.Goals as goal

pub returns : goal.returns
returns c =
    field_begins c.args.global c.args.line (field_place c.args.field) (objects.object c.in_ok-copy.copy) (objects.object c.args.x.now)
    c.in_ok-copy.ensures (what_view c.in_ok-statement.statement) (view.given c.new-given.result) (view.given c.add.new.self)
    c.in_ok-statement.ensures c.new-given.ensures c.in_ok-add.ensures

pub returns-in_err-statement : goal.returns-in_err-statement
returns-in_err-statement c =
    let p = err_from_is_err_and c.from_residual-in_err-statement.result c.from_residual-in_err-statement.ensures.1 in
    rw (p.1, p.2) (field_stops c.args.global c.args.line (field_place c.args.field) (objects.object c.in_ok-copy.copy)
    (objects.object c.args.x.now) c.in_ok-copy.ensures _ c.in_err-statement.ensures)
