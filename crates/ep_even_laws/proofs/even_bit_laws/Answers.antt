use Rattle.std.proofs.Common.{refl}
use Rattle.ep_domain.specs.Laws.PairLawful.{pair_laws}
use Rattle.ep_congruence_domain.proofs.Lawful.{congruence_laws}
use Rattle.ep_bit_domain.proofs.Lawful.{bit_laws}
use Rattle.ep_even_laws.proofs.Pairs.{pair_products}
use Rattle.ep_even_laws.proofs.Products.{congruence_products}
use Rattle.ep_even_laws.proofs.BitPairs.{left_products}
use Rattle.ep_even_laws.proofs.even_bit_laws.Goals as goal

pub returns-clause-products : goal.returns-clause-products
returns-clause-products g c =
    left_products _ _ (pair_laws g.met.A.Num.laws congruence_laws) bit_laws refl refl
    (pair_products g.A.Num _ g.met.A.Num.laws congruence_laws refl congruence_products)

pub returns-clause-even : goal.returns-clause-even
returns-clause-even g c =
    c.honest_laws.ensures.even refl
    (left_products _ _ (pair_laws g.met.A.Num.laws congruence_laws) bit_laws refl refl
    (pair_products g.A.Num _ g.met.A.Num.laws congruence_laws refl congruence_products))
