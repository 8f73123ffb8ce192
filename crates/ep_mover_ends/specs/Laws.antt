-- The end of main where a mover runs (this project's rules).
use Rattle.std.specs.Prelude.{◌≡◌, ℕ, true, [], slice_get, Some}
use Rattle.ep_int.specs.declared.types.Order.{Order}
use Rattle.ep_domain.specs.Domain.{Ops}
use Rattle.ep_cells.specs.States.{Known}
use Rattle.ep_core.specs.Program.{Block, Function, Program}
use Rattle.ep_core.specs.Runs.{Side, is_result}
use Rattle.ep_core.specs.WellFormed.{is_well_formed}
use Rattle.ep_pass.specs.Laws.{AreOther}
use Rattle.ep_transfers.specs.Cells.{cell_ops}
use Rattle.ep_movers.specs.Forms.{has_moving_form}
use Rattle.ep_movers.specs.Movers.{Machine, bytes_in, blank_bytes}
use Rattle.ep_mover_bits.specs.Laws.{Inputs}
use Rattle.ep_mover_steps.specs.Laws.{Stands}

-- at the end, where main's result is zero bytes
abbrev pub EndsAreQuiet : {N : Type 0} → Ops N → Type 0
EndsAreQuiet {N = N} D =
    (p : Program) (ord : Side → Order) → is_well_formed p ≡ true → has_moving_form p ≡ true → AreOther ord
    → (f : Function) → slice_get p.functions p.main ≡ Some f → (base : Inputs) (ms : Side → Machine) (k : Known N)
    → Stands D p ord base ms k
    → ((b : ℕ) (d : Block) → is_result f.result b ≡ true → slice_get p.blocks b ≡ Some d → (i : Side)
    → bytes_in (ms i).memory b ≡ blank_bytes true d.size)
    → (cell_ops D p ord).ended f k ≡ []
