use Rattle.ep_cell_steps.proofs.Making.{as_many}
use Rattle.ep_shared_parts.specs.Spread.{all_items}
use Rattle.ep_cell_parts.proofs.Together.{both_kept}
use Rattle.ep_cell_parts.proofs.unions.united.Goals as goal

pub parts_of_both-requires : goal.parts_of_both-requires
parts_of_both-requires g c = as_many (all_items c.args.parts.now) (all_items c.args.others.now) c.requires.alike

pub returns-clause-kept : goal.returns-clause-kept
returns-clause-kept g c =
    both_kept g.N.Num.ops c.args.union c.args.model c.args.uses.now c.args.parts.now c.in_ok-after.after.items (all_items c.args.others.now) c.join_laws.ensures c.requires.kept c.requires.second c.requires.alike c.in_ok-after.ensures.items c.in_ok-after.ensures.outlines
