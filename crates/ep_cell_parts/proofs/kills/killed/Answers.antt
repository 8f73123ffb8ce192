use Rattle.std.proofs.Common.{arith}
use Rattle.ep_shared_parts.specs.Spread.{all_items}
use Rattle.ep_cell_changes.proofs.Together.{killed_is}
use Rattle.ep_cell_steps.proofs.Killing.{kill_kept}
use Rattle.ep_cell_parts.proofs.kills.killed.Goals as goal

pub returns-clause-items : goal.returns-clause-items
returns-clause-items g c =
    killed_is c.args.model c.args.side c.args.block c.args.leaves.now c.args.size (all_items c.args.parts.now) (all_items c.in_ok-after.after.items) c.in_ok-entered.entered.items (all_items c.put_all.new.parts.items) c.in_ok-after.ensures.items c.in_ok-entered.ensures c.in_ok-put_all.ensures.items

pub returns-clause-kept : goal.returns-clause-kept
returns-clause-kept g c =
    kill_kept g.N.Num.ops c.args.model c.args.side c.args.block c.args.leaves.now c.args.size c.args.uses.now c.args.parts.now c.put_all.new.parts.items (all_items c.in_ok-after.after.items) c.in_ok-entered.entered.items c.kill_laws.ensures c.requires.kept c.requires.leaves (omega (arith, c.ranges.size.fits)) c.in_ok-after.ensures.items c.in_ok-entered.ensures c.in_ok-put_all.ensures.items c.in_ok-put_all.ensures.spread
