-- The state in which main begins stands for one pair of memories alone: those with which the program begins, undefined
-- outside of all blocks (C11 6.7.9p10; this project's rules).
use Rattle.std.specs.Prelude.{IsTrue}
use Rattle.ep_int.specs.declared.types.Order.{Order}
use Rattle.ep_domain.specs.Domain.{Ops}
use Rattle.ep_core.specs.Program.{Program}
use Rattle.ep_core.specs.Runs.{Side, left, right, initial}
use Rattle.ep_core.specs.WellFormed.{is_well_formed}
use Rattle.ep_transfers.specs.Cells.{cell_ops}
use Rattle.ep_single_states.specs.Laws.{ConcretisesOne}
use Rattle.ep_single_restricted.specs.Restricted.{restricted}

abbrev pub EntryIsExact : {N : Type 0} → Ops N → Type 0
EntryIsExact D =
    (p : Program) (ord : Side → Order) → IsTrue (is_well_formed p)
    → ConcretisesOne D p ord (cell_ops D p ord).entry (restricted p (initial (ord left) p))
    (restricted p (initial (ord right) p))
