use Rattle.std.proofs.Common.{arith, ap, ◌∙◌, ◌^◌}
use Rattle.std.proofs.lemmas.Nat.{one_shl}
use Rattle.ep_congruence.proofs.numbers.turn.Goals as goal

pub returns : goal.returns
returns c = let w = c.bits.ensures.within in one_shl c.bits.result 128 (omega arith) ∙ ap (λ n. 2 ^ n) c.bits.ensures.value
