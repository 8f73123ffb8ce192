-- What a statement that clears an object keeps of good states of tame programs.
use Rattle.std.specs.Prelude.{◌≡◌, ℕ, true, List, slice_get, Some}
use Rattle.ep_int.specs.declared.types.Order.{Order}
use Rattle.ep_domain.specs.Domain.{Ops}
use Rattle.ep_cells.specs.States.{Known}
use Rattle.ep_core.specs.Program.{Place, clear, Function, Program}
use Rattle.ep_core.specs.Runs.{Side}
use Rattle.ep_core.specs.WellFormed.{result_type, simple_fits}
use Rattle.ep_pass.specs.States.{Both}
use Rattle.ep_transfers.specs.Cells.{cell_ops}
use Rattle.ep_kinds.specs.Tame.{is_tame_simple}
use Rattle.ep_tame_laws.specs.Tamely.{AreAmong, TransferIsGood}
use Rattle.ep_tame_states.specs.States.{IsGood}

abbrev pub ClearsKeepGood : {N : Type 0} → Ops N → Program → (Side → Order) → Type 0
ClearsKeepGood {N = N} D p ord =
    (here : ℕ) (f : Function) → slice_get p.functions here ≡ Some f → (a : Place) (ty : ℕ) (seen : List ℕ)
    → simple_fits p here (result_type p.blocks f.result) (clear a ty) seen ≡ true
    → is_tame_simple p.types (clear a ty) ≡ true → (h s : Known N) (live res : List ℕ) → AreAmong seen live
    → IsGood D p ord h live res s
    → TransferIsGood (IsGood D p ord h live res) ((cell_ops D p ord).simple Both f.result (clear a ty) s)
