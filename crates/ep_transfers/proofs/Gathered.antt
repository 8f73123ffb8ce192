-- The laws of cells that statements rest on, of each lawful domain, and what follows from them.
use Rattle.ep_domain.specs.Domain.{Ops, Lawful}
use Rattle.ep_cells.proofs.Gathered.{of_writes, of_weak_writes, of_kills, of_joins, of_inclusion, of_resharing}
use Rattle.ep_reads.proofs.Splits.{of_splits}
use Rattle.ep_reads.proofs.Unified.{of_unification}
use Rattle.ep_reads.proofs.Gathered.{of_reads}
use Rattle.ep_cell_ranges.proofs.Shareds.{of_shared}
use Rattle.ep_cell_ranges.proofs.Waits.{of_splits as of_more_splits, of_writes as of_more_writes}
use Rattle.ep_cell_ranges.proofs.WeakHeld.{of_more_weak_writes}
use Rattle.ep_evaluation.proofs.Gathered.{evaluation_laws, test_laws}
use Rattle.ep_core.proofs.Operands.{sizes}
use Rattle.ep_transfers.specs.Laws.{CellLaws}
use Rattle.ep_transfers.specs.Statements.{Each, StatementsHold, ResultsHold, TestsHold, BlocksHold, PairsHold}
use Rattle.ep_transfers.proofs.Tested.{tests_hold}
use Rattle.ep_transfers.proofs.Whole.{statements_hold, results_hold, blocks_hold, pairs_hold}

module _ {N : Type 0} (D : Ops N) (law : Lawful D) where
  pub cell_laws : CellLaws D
  cell_laws = record {
    domain = law;
    reads = of_reads D law;
    splits = of_splits D law;
    more_splits = of_more_splits D law;
    writes = of_writes D;
    more_writes = of_more_writes D;
    weak_writes = of_weak_writes D law;
    more_weak_writes = of_more_weak_writes D;
    kills = of_kills D law;
    shared = of_shared D law;
  }

  pub each_statement : Each (StatementsHold D)
  each_statement p ord formed =
      statements_hold D p ord formed (sizes p formed) cell_laws ((evaluation_laws D law).expressions p ord)
      ((evaluation_laws D law).places p ord)

  pub each_result : Each (ResultsHold D)
  each_result p ord formed =
      results_hold D p ord formed (sizes p formed) cell_laws ((evaluation_laws D law).expressions p ord)
      ((evaluation_laws D law).places p ord)

  pub each_test : Each (TestsHold D)
  each_test p ord formed = tests_hold D p ord (sizes p formed) ((test_laws D law).hold p ord)

  pub each_block : Each (BlocksHold D)
  each_block p ord formed = blocks_hold D p ord (sizes p formed) cell_laws

  pub each_pair : Each (PairsHold D)
  each_pair p ord formed = pairs_hold D p ord (of_unification D law) (of_joins D law) (of_inclusion D law)
      (of_resharing D law)
