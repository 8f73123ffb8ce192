use Rattle.std.proofs.Common.{length, refl}
use Rattle.ep_cert_writing.proofs.Written.{flag_is, pointer_written}
use Rattle.ep_cert_writing.proofs.pointers.put_pointer.Goals as goal

pub returns : goal.returns
returns c =
    pointer_written c.put_targets.result c.args.pointer.now c.targets-targets.result.now c.from.result
    (length c.targets-targets.result.now) _ _ _ _
    (flag_is c.from.result c.may_be_null.result c.args.pointer.now.null c.from.ensures c.may_be_null.ensures)
    c.targets-targets.ensures.all refl c.in_ok-put_byte.ensures c.in_ok-put_low.ensures c.put_targets.ensures
