use Rattle.ep_transfer_simple.proofs.Laid.{leaves_inside}
use Rattle.ep_transfer_simple.proofs.objects.leaves_of.Goals as goal

pub returns-clause-inside : goal.returns-clause-inside
returns-clause-inside c =
    leaves_inside c.args.program.now.types.model _ c.in_ok-leaves.leaves.items c.in_ok-leaves.ensures.ordered
