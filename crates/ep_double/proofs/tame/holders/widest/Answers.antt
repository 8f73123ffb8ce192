use Rattle.ep_layout.specs.Views.{member_view}
use Rattle.ep_double.proofs.Answered.{row_at}
use Rattle.ep_double.proofs.tame.holders.widest.Goals as goal

pub size-requires : goal.size-requires
size-requires c =
    c.requires.there c.loop-i.i (member_view c.index-members-i.result)
    (row_at c.args.members.now c.loop-i.i c.index-members-i.result c.loop-i-test.true c.index-members-i.is)
