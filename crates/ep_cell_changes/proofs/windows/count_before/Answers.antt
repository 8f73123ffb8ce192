use Rattle.std.proofs.Common.{rules}
use Rattle.std.proofs.lemmas.List.Sorted.{IsPartitionPoint-from_clause}
use Rattle.ep_cell_changes.specs.Begins.{begins_before}
use Rattle.ep_cell_changes.proofs.Beginnings.{is_parted}
use Rattle.ep_cell_changes.proofs.windows.count_before.Goals as goal

pub returns-clause-point : goal.returns-clause-point
returns-clause-point g c =
    IsPartitionPoint-from_clause (begins_before c.args.block c.args.offset) _ _ c.partition_point.ensures.partitioned
    (is_parted c.args.block c.args.offset c.args.cells.now c.requires) (λ a r q k. search rules)
