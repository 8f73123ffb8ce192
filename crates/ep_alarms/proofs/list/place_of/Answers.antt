use Rattle.std.proofs.Common.{rules, arith}
use Rattle.std.proofs.lemmas.List.Sorted.{IsPartitionPoint-from_clause}
use Rattle.ep_alarms.specs.declared.types.Alarm.{Alarm}
use Rattle.ep_alarms.specs.Alarm.{before}
use Rattle.ep_alarms.proofs.Places.{in_front_together}
use Rattle.ep_alarms.proofs.list.place_of.Goals as goal

pub returns-clause-place : goal.returns-clause-place
returns-clause-place c =
    let a = c.args.a.now in
    let point = IsPartitionPoint-from_clause (λ (b : Alarm). before b a) _ _ c.partition_point.ensures.partitioned (in_front_together c.args.alarms.now a c.requires) (λ b r q k. search rules) in
    record { front = λ k d h. point.0 k d (omega arith) h; rest = λ k d g h. point.1 k d g h }
