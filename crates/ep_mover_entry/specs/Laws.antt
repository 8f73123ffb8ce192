-- What is known of the two machines of a mover, where main begins (this project's rules).
use Rattle.std.specs.Prelude.{◌≡◌, true, slice_get, Some}
use Rattle.ep_int.specs.declared.types.Order.{Order}
use Rattle.ep_domain.specs.Domain.{Ops}
use Rattle.ep_cells.specs.States.{Known}
use Rattle.ep_core.specs.Program.{Function, Program}
use Rattle.ep_core.specs.Runs.{Side}
use Rattle.ep_core.specs.WellFormed.{is_well_formed}
use Rattle.ep_pass.specs.Laws.{AreOther}
use Rattle.ep_transfers.specs.Cells.{cell_ops}
use Rattle.ep_movers.specs.Forms.{has_moving_form}
use Rattle.ep_movers.specs.Movers.{Machine}
use Rattle.ep_mover_bits.specs.Laws.{Inputs}
use Rattle.ep_mover_cells.specs.Known.{Moved}
use Rattle.ep_mover_laws.specs.Moving.{first_machines}

-- some cells have the inputs that were taken
abbrev pub IsMoved : {N : Type 0} → Ops N → Program → (Side → Order) → (Side → Machine) → Known N → Type 0
IsMoved D p ord ms k = (base : Inputs) × Moved D p ord base ms k

-- where main begins
abbrev pub EntriesAreMoved : {N : Type 0} → Ops N → Type 0
EntriesAreMoved {N = N} D =
    (p : Program) (ord : Side → Order) → is_well_formed p ≡ true → has_moving_form p ≡ true → AreOther ord
    → (f : Function) → slice_get p.functions p.main ≡ Some f
    → IsMoved D p ord (first_machines p ord f) (cell_ops D p ord).entry
