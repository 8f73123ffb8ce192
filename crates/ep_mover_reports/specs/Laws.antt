-- Reports on movers by what is known of the cells of two memories (this project's rules).
use Rattle.ep_domain.specs.Domain.{Ops}
use Rattle.ep_cells.specs.States.{Known}
use Rattle.ep_transfers.specs.Cells.{cell_ops}
use Rattle.ep_mover_laws.specs.Laws.{AgreeingMoversReportNothing}
use Rattle.ep_mover_values.specs.Naturals.{KeepsNaturals}

-- The report by cells on a mover is empty where its machines agree.
abbrev pub MoverCellsReportNothing : {N : Type 0} → Ops N → Type 0
MoverCellsReportNothing {N = N} D = AgreeingMoversReportNothing (Known N) (cell_ops D)

-- over a domain that keeps numbers that aren't negative so
abbrev pub NaturalsReportNothing : {N : Type 0} → Ops N → Type 0
NaturalsReportNothing D = KeepsNaturals D → MoverCellsReportNothing D
