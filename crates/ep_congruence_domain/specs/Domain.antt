-- Congruences as a domain.
use Rattle.std.specs.Prelude.{true}
use Rattle.ep_domain.specs.Domain.{Ops}
use Rattle.ep_congruence_laws.specs.Classes.{has_stride}
use Rattle.ep_congruence_domain.specs.Congruence.{Congruence, class_of, holds_of, top_of, single_of, range_of}
use Rattle.ep_congruence_domain.specs.Congruence.{is_within, join_of, meet_of, outcome_of, conversion_of, filter_of}
use Rattle.ep_congruence_domain.specs.Congruence.{rank_of, edges_of, cut_of}

-- Widening is the join: a chain of classes that grow has at most 66 of them.
abbrev pub congruence_ops : Ops Congruence
congruence_ops = record {
  holds = holds_of;
  top = top_of;
  single = single_of;
  range = range_of;
  within = is_within;
  join = join_of;
  widen = join_of;
  meet = meet_of;
  op = outcome_of;
  convert = conversion_of;
  filter = filter_of;
  rank = rank_of;
  height = 65;
  edges = edges_of;
  cut = cut_of;
  has_stride = λ c r s. has_stride (class_of c) r s;
  keeps_strides = true;
}
