-- Whether what is known is a state of machines that run this program.
use Rattle.std.specs.Prelude.{Bool, ◌&&◌}
use Rattle.ep_int.specs.declared.types.Order.{Order}
use Rattle.ep_cells.specs.States.{Known}
use Rattle.ep_cell_ranges.specs.Tests.{are_cells, is_model}
use Rattle.ep_core.specs.Exec.{is_order}
use Rattle.ep_core.specs.Runs.{Side, left, right}
use Rattle.ep_core.specs.Program.{Program}

abbrev pub is_state : {N : Type 0} → Program → (Side → Order) → Known N → Bool
is_state p ord k =
    (is_order k.orders.0 (ord left) && is_order k.orders.1 (ord right))
    && (is_model k.model p.types.model && are_cells k.model k.cells)
