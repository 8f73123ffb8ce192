use Rattle.ep_cert_writing.proofs.Written.{name_written}
use Rattle.ep_cert_writing.proofs.forms.put_name.Goals as goal

pub returns : goal.returns
returns c =
    name_written c.put_byte-2.result c.args.name.now c.side_byte.result c.from.result c.from-2.result c.type_byte.result
    _ _ _ _ _ c.side_byte.ensures c.from.ensures c.from-2.ensures c.type_byte.ensures c.in_ok-put_byte.ensures
    c.in_ok-put_low.ensures c.in_ok-put_low-2.ensures c.put_byte-2.ensures
