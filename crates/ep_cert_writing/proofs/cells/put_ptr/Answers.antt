use Rattle.ep_cert_writing.proofs.Written.{ptr_written}
use Rattle.ep_cert_writing.proofs.cells.put_ptr.Goals as goal

pub returns : goal.returns
returns c =
    ptr_written c.put_pointer.result c.args.pointer.now _ _ _ c.in_ok-put_byte.ensures c.put_pointer.ensures
