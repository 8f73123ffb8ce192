-- A cell gets another value.
use Rattle.std.proofs.Common.{false, Some}
use Rattle.ep_int.specs.declared.types.Order.{Order}
use Rattle.ep_int.specs.Memory.{Value as Datum}
use Rattle.ep_domain.specs.Domain.{Ops}
use Rattle.ep_cells.specs.declared.cell.Cell.{Cell}
use Rattle.ep_cells.specs.declared.cell.Value.{Value}
use Rattle.ep_cells.specs.Cells.{IsIn}
use Rattle.ep_cells.specs.States.{Known, IsOfSort, HasRisingBlocks}
use Rattle.ep_cells.specs.Meaning.{Memories, Allows}
use Rattle.ep_core.specs.Program.{Program}
use Rattle.ep_core.specs.Runs.{Side}
use Rattle.ep_cell_ranges.specs.Narrow.{with_value}
use Rattle.ep_cell_ranges.proofs.Narrowing.{set_cells, set_holds}
use Rattle.ep_evaluation.specs.Laws.{IsState, IsKept, IsOfCell}

module _ {N : Type 0} (D : Ops N) (p : Program) (ord : Side → Order) where
  pub set_state : (k : Known N) → IsState D p ord k → (c : Cell N) (v : Value N) → IsIn c k.cells
      → IsOfSort c.what (Some v) → HasRisingBlocks (Some v) → IsState D p ord (with_value c v k)
  set_state k a c v i sort rising = record {
    orders = a.orders;
    model = a.model;
    cells = set_cells D k.model k.cells c v a.cells i sort rising;
  }

  -- where the value is one of what stands there, memories of the state stay in it
  pub set_kept : (k : Known N) (m : Memories) → IsKept D p ord k m → (c : Cell N) (u : Datum)
      → IsOfCell D p ord k m c u → (v : Value N) → IsOfSort c.what (Some v) → HasRisingBlocks (Some v)
      → Allows D c.what (Some v) false (Some u) → IsKept D p ord (with_value c v k) m
  set_kept k m kept c u h v sort rising a = record {
    state = set_state k kept.state c v h.is_in sort rising;
    holds = set_holds D k c v kept.state.cells h.is_in h.sure m u kept.holds h.stands a;
    fits = kept.fits;
  }
