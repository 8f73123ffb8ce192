use Rattle.std.proofs.Common.{refl, ◌∙◌}
use Rattle.ep_cert.specs.Certificate.{shown}
use Rattle.ep_cert.proofs.Written.{opening_written}
use Rattle.ep_cert.proofs.encoding.put_opening.Goals as goal

pub returns : goal.returns
returns c =
    opening_written c.put_low-2.result (shown c.args.cert.now) _ c.order_byte.result c.order_byte-2.result
    c.model_byte.result c.from.result c.len.result _ _ _ _ _ _ _ refl c.order_byte.ensures c.order_byte-2.ensures
    c.model_byte.ensures c.from.ensures (c.len.ensures ∙ c.args.cert.now.heads.ok.0) c.in_ok-put_all.ensures c.in_ok-put_byte.ensures
    c.in_ok-put_byte-2.ensures c.in_ok-put_byte-3.ensures c.in_ok-put_low.ensures c.put_low-2.ensures
