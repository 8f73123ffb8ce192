use Rattle.ep_interval_laws.proofs.Lawful.{interval_laws}
use Rattle.ep_congruence_domain.proofs.Lawful.{congruence_laws}
use Rattle.ep_straight_laws.proofs.Meets.{overlap_inside, meeting_range, pair_meets}
use Rattle.ep_straight_laws.proofs.straight_numbers.Goals as goal

pub returns-clause-meets : goal.returns-clause-meets
returns-clause-meets c = pair_meets _ _ interval_laws congruence_laws overlap_inside meeting_range

pub returns-clause-exact : goal.returns-clause-exact
returns-clause-exact c =
    c.straight_verdicts.ensures.exact
    (pair_meets _ _ interval_laws congruence_laws overlap_inside meeting_range)
