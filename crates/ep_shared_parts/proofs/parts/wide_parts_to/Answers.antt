use Rattle.std.proofs.Common.{arith, rules, leb}
use Rattle.std.proofs.lemmas.List.Sorted.{IsPartitionPoint-from_clause, IsPartitionedBy-leb}
use Rattle.std.proofs.lemmas.Bool.Decides.{nat_tests}
use Rattle.ep_shared_parts.proofs.Spreading.{starts_rise, count_is}
use Rattle.ep_shared_parts.proofs.parts.wide_parts_to.Goals as goal

pub returns : goal.returns
returns g c =
    let point = IsPartitionPoint-from_clause (λ x. leb x.start c.args.k) c.args.parts.now c.partition_point.result c.partition_point.ensures.partitioned (IsPartitionedBy-leb (λ x. x.start) c.args.parts.now c.args.k (λ i j d le h. starts_rise g.T.Numbered.number c.args.parts.now i j d c.requires le h)) (λ a r q k. search rules) in
    count_is g.T.Numbered.number c.args.k c.args.parts.now c.partition_point.result c.partition_point.ensures.bound (λ j d lt. grind (arith, nat_tests, point.0 j d (omega arith) lt)) (λ j d le lt. grind (arith, nat_tests, point.1 j d le lt))
