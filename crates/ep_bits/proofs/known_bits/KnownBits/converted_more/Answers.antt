use Rattle.std.proofs.Common.{sym, ◌∙◌}
use Rattle.ep_bits.proofs.Machine.{seen, converted_code}
use Rattle.ep_bits.proofs.known_bits.KnownBits.converted_more.Goals as goal

pub returns-else-is_signed : goal.returns-else-is_signed
returns-else-is_signed c =
    rw (← c.self.view_is)
    (converted_code (seen c.self.inside) c.args.t c.unwrap_or.result _ c.low_part.result
    (sym c.is_signed.ensures
    ∙ c.if-is_signed.false) c.unwrap_or.ensures c.low_part.ensures c.of_type-else-is_signed.ensures)
