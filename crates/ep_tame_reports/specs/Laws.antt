-- Reports by operations on what is known of the cells of two memories, on tame programs.
use Rattle.std.specs.Prelude.{ℕ, length}
use Rattle.ep_domain.specs.Domain.{Ops}
use Rattle.ep_cells.specs.States.{Known}
use Rattle.ep_core.specs.Program.{Program}
use Rattle.ep_pass.specs.Turns.{last_head}
use Rattle.ep_transfers.specs.Cells.{cell_ops}
use Rattle.ep_tame_laws.specs.Tamely.{AreTamely, TameReports}
use Rattle.ep_tame_cells.specs.Rank.{rank}
use Rattle.ep_tame_ops.specs.Laws.{Good}

module _ {N : Type 0} (D : Ops N) where
  -- the number of the last head of a loop
  abbrev pub last_of : Program → ℕ
  last_of p = last_head p D.height

  abbrev pub CellsAreTamely : Type 0
  CellsAreTamely =
      AreTamely (Known N) (cell_ops D) (Good D) (λ p k. rank D (length p.blocks) k.cells) last_of

  -- no report on a tame program has an alarm of the kinds E1 to E4
  abbrev pub CellsReportTamely : Type 0
  CellsReportTamely = TameReports (Known N) (cell_ops D) last_of
