-- Intervals are a lawful domain.
use Rattle.ep_domain.specs.Domain.{Lawful}
use Rattle.ep_range_laws.proofs.Comparisons.{between_true}
use Rattle.ep_interval_laws.specs.Interval.{widening_of}
use Rattle.ep_interval_laws.specs.Domain.{interval_ops}
use Rattle.ep_interval_laws.proofs.Ranks.{rank_bound}
use Rattle.ep_interval_laws.proofs.Simple as simple
use Rattle.ep_interval_laws.proofs.Filters.{filter_holds, filter_single}
use Rattle.ep_interval_laws.proofs.Outcomes.{outcome_holds, outcome_faults, outcome_shows, outcome_single}

pub interval_laws : Lawful interval_ops
interval_laws = record {
  top_holds = λ t z h. between_true _ _ _ _ h.low h.high;
  single_holds = simple.single_holds;
  single_only = simple.single_only;
  single_range = simple.single_ends;
  range_ends = λ a. a.ends;
  range_encloses = simple.range_encloses;
  range_single = simple.range_single;
  within_holds = simple.within_holds;
  within_range = simple.within_range;
  join_left = simple.join_left;
  join_right = simple.join_right;
  widen_left = λ a b z h. simple.enclosed_holds a (widening_of a b) z (simple.widening_left a b) h;
  widen_right = λ a b z h. simple.enclosed_holds b (widening_of a b) z (simple.widening_right a b) h;
  widen_range_left = simple.widening_left;
  widen_range_right = simple.widening_right;
  widen_changes = λ a b h n. simple.widening_changes a b n;
  widen_falls = λ a b h e. simple.widening_falls a b e;
  rank_bound = λ a. rank_bound a.lo a.hi;
  meet_holds = λ a b z h k. simple.overlap_holds a b.lo b.hi z h (simple.has_low b z k) (simple.has_high b z k);
  op_holds = outcome_holds;
  op_faults = outcome_faults;
  op_shows = outcome_shows;
  op_single = outcome_single;
  convert_holds = simple.conversion_holds;
  convert_single = simple.conversion_single;
  filter_holds = filter_holds;
  filter_single = filter_single;
  edges_inside = simple.edges_inside;
  edges_enclose = simple.edges_enclose;
  cut_holds = λ a lo hi z h k. simple.overlap_holds a lo hi z h k.low k.high;
  cut_place = simple.cut_place;
  cut_single = simple.cut_single;
  cut_single_away = simple.cut_single_away;
  stride_holds = λ a r s z i h k. cc;
  stride_divides = λ a r s k i h. cc;
  strides = λ e. cc;
}
