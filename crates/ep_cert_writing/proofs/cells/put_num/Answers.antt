use Rattle.ep_cert_writing.proofs.Written.{num_written}
use Rattle.ep_cert_writing.proofs.cells.put_num.Goals as goal

pub returns : goal.returns
returns c =
    num_written c.put_number.result c.args.number.now _ _ _ c.in_ok-put_byte.ensures c.put_number.ensures
