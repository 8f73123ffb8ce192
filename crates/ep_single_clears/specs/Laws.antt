-- Clears: 0 or null at each leaf of an object, and every other byte of it undefined (this project's rule). An object
-- without bytes is none of C's (C11 6.2.5p20); what is cleared at one inside of a number would hide the number.
use Rattle.std.specs.Prelude.{ℕ, ◌<◌, IsTrue}
use Rattle.ep_int.specs.declared.types.Order.{Order}
use Rattle.ep_domain.specs.Domain.{Ops}
use Rattle.ep_core.specs.Program.{Place, clear, Program}
use Rattle.ep_core.specs.Runs.{Side}
use Rattle.ep_core.specs.WellFormed.{is_well_formed}
use Rattle.ep_transfers.specs.Runs.{bytes_of}
use Rattle.ep_singles.specs.Numbers.{KeepsSingles}
use Rattle.ep_single_values.specs.Laws.{PlacesAreOne}
use Rattle.ep_single_values.specs.Statements.{StatementIsExact}

abbrev pub ClearsAreExact : {N : Type 0} → Ops N → Type 0
ClearsAreExact D =
    KeepsSingles D → (p : Program) (ord : Side → Order) → IsTrue (is_well_formed p) → PlacesAreOne D p ord
    → (a : Place) (ty : ℕ) → 0 < bytes_of p ty → StatementIsExact D p ord (clear a ty)
