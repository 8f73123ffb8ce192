use Rattle.ep_cert_writing.proofs.Written.{fixed_written}
use Rattle.ep_cert_writing.proofs.forms.put_fixed.Goals as goal

pub returns : goal.returns
returns c =
    fixed_written c.put_byte-2.result c.args.value c.args.width c.from.result _ _ _ _ c.from.ensures
    c.in_ok-put_byte.ensures c.in_ok-put_low.ensures c.put_byte-2.ensures
