use Rattle.std.proofs.Common.{ap, ◌∙◌, ◌-◌, bit_and}
use Rattle.std.proofs.lemmas.Nat.{and_mask}
use Rattle.ep_bits.proofs.masks.low.Goals as goal

pub returns-clause-value : goal.returns-clause-value
returns-clause-value c = ap (λ p. bit_and c.args.n (p - 1)) c.power.ensures ∙ and_mask c.args.n c.args.k
