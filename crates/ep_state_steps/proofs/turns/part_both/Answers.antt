use Rattle.ep_state_steps.proofs.ByTurns.{turning_first}
use Rattle.ep_state_steps.proofs.turns.part_both.Goals as goal

pub part_by_turns-requires-clause-turning : goal.part_by_turns-requires-clause-turning
part_by_turns-requires-clause-turning g c =
    turning_first c.args.a c.args.b c.in_ok-lacked.lacked.right.items c.in_ok-lacked.lacked.left.items c.requires
    c.model.ensures.cells c.model-2.ensures.cells c.in_ok-lacked.ensures.right c.in_ok-lacked.ensures.left
