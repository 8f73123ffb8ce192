-- Assignments of structs and unions (C11 6.5.16.1p1); an object has bytes (C11 6.2.5p20).
use Rattle.std.specs.Prelude.{ℕ, ◌<◌, IsTrue}
use Rattle.ep_int.specs.declared.types.Order.{Order}
use Rattle.ep_domain.specs.Domain.{Ops}
use Rattle.ep_core.specs.Program.{Place, copy_aggregate, Program}
use Rattle.ep_core.specs.Runs.{Side}
use Rattle.ep_core.specs.WellFormed.{is_well_formed}
use Rattle.ep_transfers.specs.Runs.{bytes_of}
use Rattle.ep_single_values.specs.Laws.{PlacesAreOne}
use Rattle.ep_single_values.specs.Statements.{StatementIsExact}
use Rattle.ep_singles.specs.Numbers.{KeepsSingles}

abbrev pub CopiesAreExact : {N : Type 0} → Ops N → Type 0
CopiesAreExact D =
    KeepsSingles D → (p : Program) (ord : Side → Order) → IsTrue (is_well_formed p) → PlacesAreOne D p ord
    → (a b : Place) (ty : ℕ) → 0 < bytes_of p ty → StatementIsExact D p ord (copy_aggregate a b ty)
