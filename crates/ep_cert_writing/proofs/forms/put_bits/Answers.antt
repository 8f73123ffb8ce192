use Rattle.ep_cert_writing.proofs.Written.{bits_written}
use Rattle.ep_cert_writing.proofs.forms.put_bits.Goals as goal

pub returns : goal.returns
returns c =
    bits_written c.put_byte-3.result c.args.cell.now c.args.from c.args.to _ _ _ _ _ c.in_ok-put_byte.ensures
    c.in_ok-put_name.ensures c.in_ok-put_byte-2.ensures c.put_byte-3.ensures
