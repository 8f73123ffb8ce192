use Rattle.std.proofs.Common.{arith}
use Rattle.ep_cell_steps.proofs.Cutting.{open_next, next_items}
use Rattle.ep_cell_steps.proofs.building.open_for.Goals as goal

pub returns-clause-open : goal.returns-clause-open
returns-clause-open g c =
    open_next c.args.parts.now.items c.push.new.out.items c.in_ok-part.part c.args.growing.start c.args.growing.last c.args.k
    c.args.growing.cells.items c.in_ok-with_room.field-0.items c.requires.open (omega (arith, c.if-k-growing.false))
    c.in_ok-push.ensures c.in_ok-part.ensures.start c.in_ok-part.ensures.items c.in_ok-with_room.ensures

pub returns-clause-items : goal.returns-clause-items
returns-clause-items g c =
    next_items c.args.parts.now.items c.push.new.out.items c.in_ok-part.part c.args.growing.cells.items
    c.in_ok-with_room.field-0.items c.in_ok-push.ensures c.in_ok-part.ensures.items c.in_ok-with_room.ensures
