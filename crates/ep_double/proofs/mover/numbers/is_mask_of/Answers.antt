use Rattle.std.proofs.Common.{sym, ap, ◌∙◌}
use Rattle.std.specs.Int.{w128}
use Rattle.std.proofs.lemmas.Int.{to_z-of_z}
use Rattle.ep_double.specs.ByteStates.{are_whole_bytes, bits}
use Rattle.ep_double.proofs.ByteLaws.{whole_are}
use Rattle.ep_double.proofs.mover.numbers.is_mask_of.Goals as goal

pub returns : goal.returns
returns c =
    c.are_whole.ensures
    ∙ (ap (λ n. are_whole_bytes n 0 8) (c.bits_of.ensures ∙ ap bits (to_z-of_z w128 c.args.v c.ranges.v))
    ∙ sym (whole_are c.args.v 0 8))
