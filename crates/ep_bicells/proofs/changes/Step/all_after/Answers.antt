use Rattle.ep_bicells.proofs.Moving.{middle_moved}
use Rattle.ep_bicells.proofs.changes.Step.all_after.Goals as goal

pub returns : goal.returns
returns g c =
    middle_moved g.N.Num.ops c.args.model c.args.self.now c.args.cells.items c.cut.new.cells.items
    c.in_ok-rest.rest.items c.cut-2.new.cells.items c.in_ok-behind.behind.items c.in_ok-after.after.items
    c.append.new.out.items _ c.deref.result.now c.deref-2.result.now c.deref-3.result.now c.front-first.result
    c.back-end.result c.deref.ensures.value c.front-first.ensures.stays c.in_ok-rest.ensures.kept
    c.in_ok-rest.ensures.rest c.deref-2.ensures.value c.back-end.ensures.stays c.in_ok-behind.ensures.kept
    c.in_ok-behind.ensures.rest c.deref-3.ensures.value c.in_ok-after.ensures c.in_ok-append.ensures
    c.in_ok-append-2.ensures
