-- Congruences are a lawful domain.
use Rattle.ep_domain.specs.Domain.{Lawful}
use Rattle.ep_congruence_laws.proofs.Operations as operations
use Rattle.ep_congruence_domain.specs.Congruence.{class_of, join_of}
use Rattle.ep_congruence_domain.specs.Domain.{congruence_ops}
use Rattle.ep_congruence_domain.proofs.Formed.{same_class}
use Rattle.ep_congruence_domain.proofs.Simple as simple
use Rattle.ep_congruence_domain.proofs.Outcomes.{outcome_holds, outcome_faults, outcome_shows, outcome_single}
use Rattle.ep_congruence_domain.proofs.Strides.{stride_holds, stride_divides, congruence_strides}

pub congruence_laws : Lawful congruence_ops
congruence_laws = record {
  top_holds = simple.top_holds;
  single_holds = simple.single_holds;
  single_only = simple.single_only;
  single_range = simple.single_range;
  range_ends = λ a. simple.class_range (class_of a) a.valid;
  range_encloses = simple.range_encloses;
  range_single = simple.range_single;
  within_holds = simple.within_holds;
  within_range = simple.within_range;
  join_left = simple.join_left;
  join_right = simple.join_right;
  widen_left = simple.join_left;
  widen_right = simple.join_right;
  widen_range_left = simple.join_range_left;
  widen_range_right = simple.join_range_right;
  widen_changes = λ a b h n. operations.widen_changes (class_of a) (class_of b) a.valid b.valid (λ e. n (same_class (join_of a b) a e));
  widen_falls = λ a b h e. operations.widen_falls (class_of a) (class_of b) a.valid b.valid e;
  rank_bound = λ a. operations.rank_bound (class_of a) a.valid;
  meet_holds = simple.meet_holds;
  op_holds = outcome_holds;
  op_faults = outcome_faults;
  op_shows = outcome_shows;
  op_single = outcome_single;
  convert_holds = simple.conversion_holds;
  convert_single = simple.conversion_single;
  filter_holds = simple.filter_holds;
  filter_single = simple.filter_single;
  edges_inside = simple.edges_inside;
  edges_enclose = simple.edges_enclose;
  cut_holds = simple.cut_holds;
  cut_place = simple.cut_place;
  cut_single = simple.cut_single;
  cut_single_away = simple.cut_single_away;
  stride_holds = stride_holds;
  stride_divides = stride_divides;
  strides = λ e. congruence_strides;
}
