-- Known bits are a lawful domain.
use Rattle.ep_domain.specs.Domain.{Lawful}
use Rattle.ep_bit_laws.proofs.Ranks as ranks
use Rattle.ep_bit_domain.specs.KnownBits.{pattern_of, join_of}
use Rattle.ep_bit_domain.specs.Domain.{bit_ops}
use Rattle.ep_bit_domain.proofs.Formed.{is_pattern_of, same_pattern}
use Rattle.ep_bit_domain.proofs.Simple as simple
use Rattle.ep_bit_domain.proofs.Outcomes.{outcome_holds, outcome_faults, outcome_shows, outcome_single}

pub bit_laws : Lawful bit_ops
bit_laws = record {
  top_holds = simple.top_holds;
  single_holds = simple.single_holds;
  single_only = simple.single_only;
  single_range = simple.single_range;
  range_ends = simple.range_ends;
  range_encloses = simple.range_encloses;
  range_single = simple.range_single;
  within_holds = simple.within_holds;
  within_range = simple.within_range;
  join_left = simple.join_left;
  join_right = simple.join_right;
  widen_left = simple.join_left;
  widen_right = simple.join_right;
  widen_range_left = simple.join_range_left;
  widen_range_right = simple.join_range_right;
  widen_changes = λ a b h n. ranks.rank_changes (pattern_of a) (pattern_of b) (is_pattern_of a)
      (is_pattern_of (join_of a b)) (λ e. n (same_pattern (join_of a b) a e));
  widen_falls = λ a b h e. ranks.rank_falls (pattern_of a) (pattern_of b) (is_pattern_of a)
      (is_pattern_of (join_of a b)) e;
  rank_bound = λ a. ranks.rank_bound (pattern_of a) (is_pattern_of a);
  meet_holds = simple.meet_holds;
  op_holds = outcome_holds;
  op_faults = outcome_faults;
  op_shows = outcome_shows;
  op_single = outcome_single;
  convert_holds = simple.conversion_holds;
  convert_single = simple.conversion_single;
  filter_holds = simple.filter_holds;
  filter_single = simple.filter_single;
  edges_inside = simple.edges_inside;
  edges_enclose = simple.edges_enclose;
  cut_holds = simple.cut_holds;
  cut_place = simple.cut_place;
  cut_single = simple.cut_single;
  cut_single_away = simple.cut_single_away;
  stride_holds = λ a r s z i h k. cc;
  stride_divides = λ a r s k i h. cc;
  strides = λ e. cc;
}
