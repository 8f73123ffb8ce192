-- What statements that store one value keep of good states of tame programs.
use Rattle.std.specs.Prelude.{◌≡◌, Bool, true, false, List, slice_get, Some, ℕ}
use Rattle.ep_int.specs.declared.types.Order.{Order}
use Rattle.ep_domain.specs.Domain.{Ops}
use Rattle.ep_cells.specs.States.{Known}
use Rattle.ep_core.specs.Program.{Simple, assign, input, returns, Function, Program}
use Rattle.ep_core.specs.Runs.{Side}
use Rattle.ep_core.specs.WellFormed.{result_type, simple_fits}
use Rattle.ep_pass.specs.States.{Both}
use Rattle.ep_transfers.specs.Cells.{cell_ops}
use Rattle.ep_kinds.specs.Tame.{is_tame_simple}
use Rattle.ep_tame_laws.specs.Tamely.{AreAmong, TransferIsGood, result_block}
use Rattle.ep_tame_states.specs.States.{IsGood}

-- a statement that stores one value
abbrev pub is_store : Simple → Bool
is_store (assign what a e) = true
is_store (input t d) = true
is_store (returns e) = true
is_store w = false

abbrev pub StoresKeepGood : {N : Type 0} → Ops N → Program → (Side → Order) → Type 0
StoresKeepGood {N = N} D p ord =
    (here : ℕ) (f : Function) → slice_get p.functions here ≡ Some f → (w : Simple) → is_store w ≡ true
    → (seen : List ℕ) → simple_fits p here (result_type p.blocks f.result) w seen ≡ true
    → is_tame_simple p.types w ≡ true → (h s : Known N) (live res : List ℕ) → AreAmong seen live
    → AreAmong (result_block f) res → IsGood D p ord h live res s
    → TransferIsGood (IsGood D p ord h live res) ((cell_ops D p ord).simple Both f.result w s)
