-- What the report means of an analysis that keeps what is known of the cells of two memories.
use Rattle.std.specs.Prelude.{◌≡◌, ℕ, Bool, true, false, IsTrue}
use Rattle.std.specs.List.{AllByRecursion}
use Rattle.ep_int.specs.declared.types.Order.{Order}
use Rattle.ep_alarms.specs.declared.types.Alarm.{Alarm}
use Rattle.ep_layout.specs.Table.{IsBuilt}
use Rattle.ep_domain.specs.Domain.{Ops}
use Rattle.ep_core.specs.Program.{Program}
use Rattle.ep_core.specs.Runs.{Side}
use Rattle.ep_core.specs.WellFormed.{is_well_formed}
use Rattle.ep_pass.specs.Pass.{report_of}
use Rattle.ep_pass.specs.Places.{may_stand}
use Rattle.ep_transfers.specs.Cells.{cell_ops}
use Rattle.ep_alarm_laws.specs.Laws.{ProductsKeepStrides}

module _ {N : Type 0} (D : Ops N) where
  -- Where numbers keep strides, or don't: each alarm is of a kind that the text on its line may have, in programs whose
  -- table of types was built by the rules.
  abbrev pub AlarmsStandBy : (strides : Bool) → Type 0
  AlarmsStandBy strides =
      (p : Program) (ord : Side → Order) → IsTrue (is_well_formed p) → IsBuilt p.types → (u limit : ℕ)
      → AllByRecursion (λ (a : Alarm). IsTrue (may_stand strides a.kind a.line p))
      (report_of (cell_ops D p ord) u limit ord p)

  abbrev pub CellAlarmsStand : Type 0
  CellAlarmsStand = AlarmsStandBy false

  abbrev pub EvenCellAlarmsStand : Type 0
  EvenCellAlarmsStand = D.keeps_strides ≡ true → ProductsKeepStrides D → AlarmsStandBy true
