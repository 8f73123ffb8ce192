use Rattle.ep_shared_parts.specs.Spread.{all_items}
use Rattle.ep_cell_steps.proofs.Standing.{elsewhere_from}
use Rattle.ep_cell_steps.proofs.changes.edits_elsewhere.Goals as goal

pub returns : goal.returns
returns g c =
    elsewhere_from g.N.Num.ops c.args.model c.args.step.now c.args.range.0 c.args.range.1 (all_items c.args.uses.now) c.args.parts.now c.in_ok-edits.edits.items c.push_targets.new.out.items c.in_ok-edits.ensures.users c.in_ok-push_targets.ensures.edits c.in_ok-push_targets.ensures.keeps c.in_ok-push_targets.ensures.targets
