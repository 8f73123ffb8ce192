-- Main's result is compared at its end, where a state stands for one pair of memories alone: nothing is wrong where
-- both machines put out the same (this project's rule, after Delmas, Ouadjaout and Miné 2021).
use Rattle.std.specs.Prelude.{◌≡◌, [], Some, slice_get, IsTrue}
use Rattle.ep_int.specs.declared.types.Order.{Order}
use Rattle.ep_domain.specs.Domain.{Ops}
use Rattle.ep_cells.specs.States.{Known}
use Rattle.ep_core.specs.Program.{Function, Program}
use Rattle.ep_core.specs.Exec.{State}
use Rattle.ep_core.specs.Runs.{Side, left, right, ended, main_ends}
use Rattle.ep_core.specs.WellFormed.{is_well_formed}
use Rattle.ep_transfers.specs.Cells.{cell_ops}
use Rattle.ep_closed_laws.specs.Closely.{ConcretisesOneTyped}
use Rattle.ep_single_states.specs.Laws.{ConcretisesOne}

abbrev pub EndIsExact : {N : Type 0} → Ops N → Type 0
EndIsExact {N = N} D =
    (p : Program) (ord : Side → Order) → IsTrue (is_well_formed p) → (f : Function)
    → slice_get p.functions p.main ≡ Some f → (s : Known N) (x y : State)
    → ConcretisesOneTyped p (ConcretisesOne D p ord) s x y
    → (main_ends (ord left) p f.result f.line x).ending ≡ ended
    → (main_ends (ord right) p f.result f.line y).ending ≡ ended
    → (main_ends (ord left) p f.result f.line x).outputs ≡ (main_ends (ord right) p f.result f.line y).outputs
    → (cell_ops D p ord).ended f s ≡ []
