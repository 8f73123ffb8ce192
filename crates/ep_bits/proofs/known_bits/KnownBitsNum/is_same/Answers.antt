use Rattle.std.proofs.Common.{ap, eq-eqb}
use Rattle.std.proofs.lemmas.Bool.{eqb-true}
use Rattle.ep_bit_domain.specs.KnownBits.{KnownBits}
use Rattle.ep_bit_domain.proofs.Formed.{same_pattern}
use Rattle.ep_bits.proofs.Machine.{seen, both_masks}
use Rattle.ep_bits.proofs.known_bits.KnownBitsNum.is_same.Goals as goal

pub returns-then-self-o : goal.returns-then-self-o
returns-then-self-o c =
    let a = seen c.self.inside in let b = seen c.o.inside in
    rw (← c.self.view_is, ← c.o.view_is) (
      λ h. same_pattern a b (both_masks _ _ _ _ c.if-self-o.true (eqb-true _ _ h)),
      λ e. eq-eqb _ _ (ap (λ (i : KnownBits). i.ones) e),
    )

pub returns-else-self-o : goal.returns-else-self-o
returns-else-self-o c =
    let a = seen c.self.inside in let b = seen c.o.inside in
    rw (← c.self.view_is, ← c.o.view_is) (
      λ h. absurd (c.if-self-o.false (eqb-true _ _ h)),
      λ e. eq-eqb _ _ (ap (λ (i : KnownBits). i.zeros) e),
    )
