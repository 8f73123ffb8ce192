use Rattle.std.proofs.Common.{refl}
use Rattle.ep_interval_laws.proofs.Lawful.{interval_laws}
use Rattle.ep_congruence_domain.proofs.Lawful.{congruence_laws}
use Rattle.ep_tame_numbers.proofs.Pairs.{pair_cut, pair_sum, pair_product, pair_joined, pair_widened}
use Rattle.ep_tame_numbers.proofs.Intervals.{interval_ranges, interval_singles}
use Rattle.ep_tame_numbers.proofs.Classes.{congruence_singles}
use Rattle.ep_tame_numbers.proofs.offset_laws.Goals as goal

pub returns : goal.returns
returns c = record {
  strides = refl;
  cut_range = pair_cut _ _ interval_laws congruence_laws interval_ranges;
  sum_range = pair_sum _ _ interval_laws congruence_laws interval_ranges;
  product_range = pair_product _ _ interval_laws congruence_laws interval_ranges;
  join_single = λ v i. pair_joined _ _ interval_laws congruence_laws interval_singles congruence_singles v;
  widen_single = λ v i. pair_widened _ _ interval_laws congruence_laws interval_singles congruence_singles v;
}
