use Rattle.ep_typing.proofs.FieldOrder.{field_means, field_meant, field_offends, field_alone}
use Rattle.ep_typing.proofs.laws.bit_fields.Goals as goal

pub returns : goal.returns
returns c = record { means = field_means; meant = field_meant; refused = field_offends; alone = field_alone }
