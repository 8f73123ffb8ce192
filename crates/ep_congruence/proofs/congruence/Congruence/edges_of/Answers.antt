use Rattle.std.proofs.Common.{◌≡◌, ℤ, rules, sym, subst}
use Rattle.std.specs.Prelude.{IfSome}
use Rattle.ep_int.specs.Arith.{IsOfSomeType}
use Rattle.ep_congruence_laws.specs.Classes.{edges_of}
use Rattle.ep_congruence_domain.specs.Congruence.{class_of}
use Rattle.ep_congruence.proofs.Machine.{edges_numbers}
use Rattle.ep_congruence.proofs.congruence.Congruence.edges_of.Goals as goal

pub returns-clause-numbers : goal.returns-clause-numbers
returns-clause-numbers c =
    let v : c.edges_from.result ≡ edges_of (class_of c.args.self.now) c.args.lo c.args.hi = search rules in
    subst (λ o. IfSome o (λ (e : ℤ × ℤ). IsOfSomeType e.0 × IsOfSomeType e.1)) (sym v) (edges_numbers (class_of c.args.self.now) c.args.lo c.args.hi)
