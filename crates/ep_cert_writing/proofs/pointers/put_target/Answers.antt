use Rattle.ep_cert_writing.proofs.Written.{target_written}
use Rattle.ep_cert_writing.proofs.pointers.put_target.Goals as goal

pub returns : goal.returns
returns c =
    target_written c.put_number.result c.args.target.now c.from.result _ _ _ c.from.ensures c.in_ok-put_low.ensures
    c.put_number.ensures
