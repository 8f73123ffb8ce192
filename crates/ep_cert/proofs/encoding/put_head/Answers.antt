use Rattle.std.proofs.Common.{◌∙◌}
use Rattle.ep_cert.proofs.Written.{head_written}
use Rattle.ep_cert.proofs.encoding.put_head.Goals as goal

pub returns : goal.returns
returns c =
    head_written c.put_cells.result c.args.head.now (λ r. r.now) c.in_ok-cells.cells.items c.deref.result.now c.len.result
    _ _ _ c.in_ok-cells.ensures c.deref.ensures.value (c.len.ensures ∙ c.in_ok-cells.cells.ok.0) c.in_ok-put_low.ensures c.put_cells.ensures
