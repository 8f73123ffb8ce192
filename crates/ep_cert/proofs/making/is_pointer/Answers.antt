use Rattle.ep_cert.proofs.Writable.{pointer_test}
use Rattle.ep_cert.proofs.making.is_pointer.Goals as goal

pub returns : goal.returns
returns c =
    pointer_test c.args.pointer.now c.targets-targets.result.now c.has_room.result c.are_targets.result
    c.may_be_null.result c.is_empty.result c.targets-targets.ensures.all c.targets-targets.ensures.rising
    c.has_room.ensures c.are_targets.ensures c.may_be_null.ensures c.is_empty.ensures
