use Rattle.ep_shared_parts.specs.Spread.{all_items}
use Rattle.ep_cell_steps.proofs.Killing.{killed_from}
use Rattle.ep_cell_parts.proofs.kills.edits_of_kill.Goals as goal

pub returns : goal.returns
returns g c =
    killed_from g.N.Num.ops c.args.model c.args.side c.args.block c.numbers_of_block-range.result.0
    c.numbers_of_block-range.result.1 (all_items c.args.uses.now) c.args.parts.now c.in_ok-edits.edits.items
    c.push_pointers.new.out.items c.numbers_of_block-range.ensures.from c.numbers_of_block-range.ensures.last
    c.in_ok-edits.ensures c.in_ok-push_pointers.ensures.edits c.in_ok-push_pointers.ensures.keeps
    c.in_ok-push_pointers.ensures.pointers
