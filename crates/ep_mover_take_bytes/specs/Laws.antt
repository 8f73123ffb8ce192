-- Bytes of inputs go to a block, on both machines (this project's rules).
use Rattle.std.specs.Prelude.{◌≡◌, ℕ, true, slice_get, Some}
use Rattle.std.specs.Prelude.{Ok}
use Rattle.ep_int.specs.declared.types.Order.{Order}
use Rattle.ep_domain.specs.Domain.{Ops}
use Rattle.ep_cells.specs.States.{Known}
use Rattle.ep_core.specs.Program.{Expr, read_bytes, Function, Program}
use Rattle.ep_core.specs.Runs.{Side, left, right}
use Rattle.ep_core.specs.WellFormed.{result_type, simple_fits, is_well_formed}
use Rattle.ep_pass.specs.States.{Both}
use Rattle.ep_pass.specs.Laws.{AreOther}
use Rattle.ep_transfers.specs.Cells.{cell_ops}
use Rattle.ep_movers.specs.Forms.{is_moving_simple, has_moving_form}
use Rattle.ep_movers.specs.Movers.{Machine, does}
use Rattle.ep_mover_bits.specs.Laws.{Inputs}
use Rattle.ep_mover_runs.specs.Following.{blocks_of_main}
use Rattle.ep_mover_steps.specs.Laws.{Stands, StepStands}
use Rattle.ep_mover_values.specs.Naturals.{KeepsNaturals}

-- Statements that take bytes keep what is known.
abbrev pub TakeBytesStand : {N : Type 0} → Ops N → Type 0
TakeBytesStand {N = N} D =
    KeepsNaturals D → (p : Program) (ord : Side → Order) → is_well_formed p ≡ true → has_moving_form p ≡ true
    → AreOther ord → (f : Function) → slice_get p.functions p.main ≡ Some f → (base : Inputs)
    (ms ns : Side → Machine) (k : Known N) → Stands D p ord base ms k → (e : Expr) (n : ℕ)
    → is_moving_simple p (read_bytes e n) ≡ true
    → simple_fits p p.main (result_type p.blocks f.result) (read_bytes e n)
    (blocks_of_main (slice_get p.functions p.main)) ≡ true
    → ((s : Side) → does (ord s) (read_bytes e n) (ms s) ≡ Ok (ns s)) → (ns left).outputs ≡ (ns right).outputs
    → StepStands D p ord ns ((cell_ops D p ord).simple Both f.result (read_bytes e n) k)
