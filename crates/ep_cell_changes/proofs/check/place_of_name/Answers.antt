use Rattle.std.proofs.Common.{rules}
use Rattle.std.proofs.lemmas.List.Sorted.{IsPartitionPoint-from_clause}
use Rattle.ep_cell_changes.specs.Tests.{is_before_name}
use Rattle.ep_cell_changes.proofs.Checked.{parted}
use Rattle.ep_cell_changes.proofs.check.place_of_name.Goals as goal

pub returns-clause-point : goal.returns-clause-point
returns-clause-point g c =
    IsPartitionPoint-from_clause (is_before_name c.args.n.now) _ _ c.partition_point.ensures.partitioned (parted
    c.args.n.now c.args.cells.now c.requires) (λ a r q k. search rules)
