use Rattle.std.proofs.Common.{◌++◌}
use Rattle.ep_shared_parts.specs.Spread.{all_items}
use Rattle.ep_cell_steps.proofs.Cutting.{open_more_at, more_items}
use Rattle.ep_cell_steps.proofs.building.with_cell.Goals as goal

pub returns-clause-open : goal.returns-clause-open
returns-clause-open g c =
    open_more_at c.open_for.new.parts.items c.in_ok-growing.growing.start c.in_ok-growing.growing.last c.number_at-last.result
    c.in_ok-growing.growing.cells.items c.push.new.out.items c.args.c c.in_ok-growing.ensures.open c.in_ok-growing.ensures.rises
    c.number_at-last.ensures c.in_ok-push.ensures

pub returns-clause-items : goal.returns-clause-items
returns-clause-items g c =
    more_items (all_items c.args.parts.now.items ++ c.args.growing.cells.items) (all_items c.open_for.new.parts.items)
    c.in_ok-growing.growing.cells.items c.push.new.out.items c.args.c c.in_ok-growing.ensures.items c.in_ok-push.ensures
