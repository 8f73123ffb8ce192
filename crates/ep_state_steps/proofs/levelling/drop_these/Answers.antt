use Rattle.ep_state_steps.proofs.Both.{lacking_is}
use Rattle.ep_state_steps.proofs.levelling.drop_these.Goals as goal

pub returns-clause-first : goal.returns-clause-first
returns-clause-first g c =
    lacking_is c.args.a c.in_ok-left.left c.args.b.cells c.args.lacked.now.left.items _ c.model.ensures.cells
    c.deref.ensures.value c.requires.first c.in_ok-left.ensures

pub returns-clause-second : goal.returns-clause-second
returns-clause-second g c =
    lacking_is c.args.b c.in_ok-right.right c.args.a.cells c.args.lacked.now.right.items _ c.model-2.ensures.cells
    c.deref-2.ensures.value c.requires.second c.in_ok-right.ensures
