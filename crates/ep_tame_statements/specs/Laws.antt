-- What statements without statements in them keep of good states of tame programs.
use Rattle.std.specs.Prelude.{◌≡◌, ℕ, true, List, slice_get, Some}
use Rattle.ep_int.specs.declared.types.Order.{Order}
use Rattle.ep_domain.specs.Domain.{Ops}
use Rattle.ep_cells.specs.States.{Known}
use Rattle.ep_core.specs.Program.{Simple, Function, Program}
use Rattle.ep_core.specs.Runs.{Side}
use Rattle.ep_core.specs.WellFormed.{result_type, simple_fits}
use Rattle.ep_pass.specs.States.{Both}
use Rattle.ep_transfers.specs.Cells.{cell_ops}
use Rattle.ep_kinds.specs.Tame.{is_tame_simple}
use Rattle.ep_tame_laws.specs.Tamely.{AreAmong, TransferIsGood, result_block}
use Rattle.ep_tame_states.specs.States.{IsGood}

-- Each tame statement keeps a good state, and its faults are of undefined behaviour alone.
abbrev pub StatementsKeepGood : {N : Type 0} → Ops N → Program → (Side → Order) → Type 0
StatementsKeepGood {N = N} D p ord =
    (here : ℕ) (f : Function) → slice_get p.functions here ≡ Some f → (w : Simple) (seen : List ℕ)
    → simple_fits p here (result_type p.blocks f.result) w seen ≡ true
    → is_tame_simple p.types w ≡ true
    → (h s : Known N) (live res : List ℕ) → AreAmong seen live → AreAmong (result_block f) res
    → IsGood D p ord h live res s
    → TransferIsGood (IsGood D p ord h live res) ((cell_ops D p ord).simple Both f.result w s)
