use Rattle.std.proofs.Common.{ap, of_z, eq-eqb}
use Rattle.std.proofs.lemmas.Bool.{eqb-true}
use mir.Syntax.{w128}
use Rattle.ep_congruence_domain.specs.Congruence.{Congruence}
use Rattle.ep_congruence.proofs.Machine.{seen, same_congruence}
use Rattle.ep_congruence.proofs.congruence.CongruenceNum.is_same.Goals as goal

pub returns-then-self-o : goal.returns-then-self-o
returns-then-self-o c =
    let a = seen c.self.inside in let b = seen c.o.inside in
    rw (← c.self.view_is, ← c.o.view_is) (
      λ h. same_congruence a b c.if-self-o.true (eqb-true _ _ h),
      λ e. eq-eqb _ _ (ap (λ (i : Congruence). i.modulus) e),
    )

pub returns-else-self-o : goal.returns-else-self-o
returns-else-self-o c =
    let a = seen c.self.inside in let b = seen c.o.inside in
    rw (← c.self.view_is, ← c.o.view_is) (
      λ h. absurd (c.if-self-o.false (eqb-true _ _ h)),
      λ e. eq-eqb _ _ (ap (λ (i : Congruence). of_z w128 i.remainder) e),
    )
