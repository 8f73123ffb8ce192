-- Intervals as a domain.
use Rattle.ep_domain.specs.Domain.{Ops}
use Rattle.std.specs.Prelude.{false}
use Rattle.ep_interval_laws.specs.Interval.{Interval, ends_of, holds_of, top_of, single_of, is_within, join_of}
use Rattle.ep_interval_laws.specs.Interval.{overlap, meet_of, edges_of, widening_of, rank_of, conversion_of}
use Rattle.ep_interval_laws.specs.Interval.{filter_of}
use Rattle.ep_interval_laws.specs.Results.{outcome_of}

abbrev pub interval_ops : Ops Interval
interval_ops = record {
  holds = holds_of;
  top = top_of;
  single = single_of;
  range = ends_of;
  within = is_within;
  join = join_of;
  widen = widening_of;
  meet = meet_of;
  op = outcome_of;
  convert = conversion_of;
  filter = filter_of;
  rank = rank_of;
  height = 14;
  edges = edges_of;
  cut = overlap;
  has_stride = λ a r s. false;
  keeps_strides = false;
}
