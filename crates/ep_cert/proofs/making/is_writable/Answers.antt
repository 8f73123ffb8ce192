use Rattle.std.proofs.Common.{map, length, ap, sym, ◌∙◌}
use Rattle.ep_cert.proofs.Writable.{writable_test}
use Rattle.ep_cert.proofs.making.is_writable.Goals as goal

pub returns : goal.returns
returns c =
    writable_test c.args.head.now (λ r. r.now) c.deref.result.now c.has_room.result c.are_bounded.result c.len.result
    c.model.ensures.cells (ap (map (λ r. r.now)) c.deref.ensures.value ∙ c.in_ok-cells.ensures)
    (c.len.ensures ∙ c.in_ok-cells.cells.ok.0 ∙ sym (ap (λ l. length l) c.deref.ensures.value)) c.has_room.ensures
    c.are_bounded.ensures
