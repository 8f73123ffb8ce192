-- Known bits as a domain.
use Rattle.std.specs.Prelude.{false}
use Rattle.ep_domain.specs.Domain.{Ops}
use Rattle.ep_bit_domain.specs.KnownBits.{KnownBits, holds_of, top_of, single_of, range_of, is_within, join_of}
use Rattle.ep_bit_domain.specs.KnownBits.{meet_of, outcome_of, conversion_of, filter_of, rank_of, edges_of, cut_of}

-- Widening is the join: a chain of values of which each knows fewer bits than the one before has at most 66 of them.
abbrev pub bit_ops : Ops KnownBits
bit_ops = record {
  holds = holds_of;
  top = top_of;
  single = single_of;
  range = range_of;
  within = is_within;
  join = join_of;
  widen = join_of;
  meet = meet_of;
  op = outcome_of;
  convert = conversion_of;
  filter = filter_of;
  rank = rank_of;
  height = 65;
  edges = edges_of;
  cut = cut_of;
  has_stride = λ a r s. false;
  keeps_strides = false;
}
