-- The reduced product of two domains, as a domain.
use Rattle.std.specs.Prelude.{◌||◌}
use Rattle.ep_domain.specs.Domain.{Ops}
use Rattle.ep_domain.specs.Common.{sum_of_ranks}
use Rattle.ep_domain.specs.declared.num.Num.{Ghosts}
use Rattle.ep_domain.specs.declared.pair.Pair.{Pair}
use Rattle.ep_domain.specs.Pairs.{holds_of, top_of, single_of, range_of, is_within, join_of, widening_of, meet_of}
use Rattle.ep_domain.specs.Pairs.{outcome_of, conversion_of, filter_of, rank_of, edges_of, cut_of, has_stride_of}

module _ {A B : Type 0} {f : Ghosts A} {g : Ghosts B} where
  abbrev pub pair_ops : Ops (Pair A B f g)
  pair_ops = record {
    holds = holds_of;
    top = top_of;
    single = single_of;
    range = range_of;
    within = is_within;
    join = join_of;
    widen = widening_of;
    meet = meet_of;
    op = outcome_of;
    convert = conversion_of;
    filter = filter_of;
    rank = rank_of;
    height = sum_of_ranks f.ops.height g.ops.height;
    edges = edges_of;
    cut = cut_of;
    has_stride = has_stride_of;
    keeps_strides = g.ops.keeps_strides || f.ops.keeps_strides;
  }
