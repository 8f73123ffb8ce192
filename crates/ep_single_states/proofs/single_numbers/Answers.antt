use Rattle.ep_interval_laws.proofs.Lawful.{interval_laws}
use Rattle.ep_congruence_domain.proofs.Lawful.{congruence_laws}
use Rattle.ep_straight_laws.proofs.Meets.{overlap_inside, meeting_range, pair_meets}
use Rattle.ep_single_states.proofs.Filters.{intervals_kept, classes_kept, pair_filters}
use Rattle.ep_single_states.proofs.single_numbers.Goals as goal

pub returns : goal.returns
returns c = record {
  meet = pair_meets _ _ interval_laws congruence_laws overlap_inside meeting_range;
  filter = pair_filters _ _ interval_laws congruence_laws intervals_kept classes_kept;
}
