use Rattle.std.proofs.Common.{sym, ◌∙◌}
use Rattle.ep_frames.proofs.Rounds.{round_tested}
use Rattle.ep_frames.proofs.leaving.leave_again.Goals as goal

pub returns-in_ok-next-in-On-clause-comes : goal.returns-in_ok-next-in-On-clause-comes
returns-in_ok-next-in-On-clause-comes c left =
    rw (c.in-On.is) (c.in_ok-next-in-On.ensures.comes left ∙ sym (round_tested c.args.on.now c.args.round.now left _))
