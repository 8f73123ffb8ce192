-- Reports by operations on what is known of the cells of two memories, on closed and steady programs.
use Rattle.std.specs.Prelude.{◌≡◌, ℕ, [], IsTrue}
use Rattle.ep_int.specs.declared.types.Order.{Order}
use Rattle.ep_domain.specs.Domain.{Ops}
use Rattle.ep_cells.specs.States.{Known}
use Rattle.ep_core.specs.Program.{Program}
use Rattle.ep_core.specs.Runs.{Side, left, right}
use Rattle.ep_core.specs.WellFormed.{is_well_formed}
use Rattle.ep_pass.specs.Laws.{AreOther}
use Rattle.ep_pass.specs.Pass.{report_of}
use Rattle.ep_pass.specs.Turns.{last_head}
use Rattle.ep_kinds.specs.Steady.{IsClosed, IsSteady}
use Rattle.ep_transfers.specs.Cells.{cell_ops}
use Rattle.ep_closed_laws.specs.Laws.{TypesHaveBytes, AreExact}
use Rattle.ep_singles.specs.Numbers.{KeepsSingles}
use Rattle.ep_single_states.specs.Laws.{ConcretisesOne}

module _ {N : Type 0} (D : Ops N) where
  -- the operations are exact on closed programs
  abbrev pub CellsAreExact : Type 0
  CellsAreExact = KeepsSingles D → AreExact (Known N) (cell_ops D) (ConcretisesOne D)

  -- The report on a closed and steady program is empty, where so many turns are unrolled as its loops take at most.
  abbrev pub CellsReportClosed : Type 0
  CellsReportClosed =
      (p : Program) (ord : Side → Order) → IsTrue (is_well_formed p) → TypesHaveBytes p.types → AreOther ord → (u : ℕ)
      → IsClosed p (ord left) (ord right) u → IsSteady p (ord left) (ord right)
      → report_of (cell_ops D p ord) u (last_head p D.height) ord p ≡ []
