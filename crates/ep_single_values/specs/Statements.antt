-- What a statement without statements in it keeps where a state stands for one pair of memories alone: no fault, and
-- the state after it stands for the machines' memories after it alone (this project's rule).
use Rattle.std.specs.Prelude.{◌≡◌, ℕ, true, false, List, slice_get, Some, IsTrue}
use Rattle.ep_int.specs.declared.types.Order.{Order}
use Rattle.ep_domain.specs.Domain.{Ops}
use Rattle.ep_cells.specs.States.{Known}
use Rattle.ep_core.specs.Program.{Simple, Function, Program}
use Rattle.ep_core.specs.Exec.{State, uncounted, does}
use Rattle.ep_core.specs.Runs.{Side, left, right}
use Rattle.ep_core.specs.WellFormed.{result_type, simple_fits, is_well_formed}
use Rattle.ep_pass.specs.States.{Both, One}
use Rattle.ep_pass.specs.Laws.{AreOther}
use Rattle.ep_pass.specs.Pass.{way_of}
use Rattle.ep_kinds.specs.InOut.{is_input, is_talk}
use Rattle.ep_transfers.specs.Cells.{cell_ops}
use Rattle.ep_closed_laws.specs.Exactly.{IfLeft, IfBothLeft, TransferIsExact, SeenFrom}
use Rattle.ep_closed_laws.specs.Closely.{ConcretisesOneTyped, ConcretisesOneBeside}
use Rattle.ep_singles.specs.Numbers.{KeepsSingles}
use Rattle.ep_single_states.specs.Laws.{ConcretisesOne}
use Rattle.ep_single_values.specs.Laws.{ValuesAreOne, PlacesAreOne}

module _ {N : Type 0} (D : Ops N) where
  module _ (p : Program) (ord : Side → Order) where
    pub record StatementIsExact (w : Simple) : Type 0 where
      -- one machine alone, where nothing is put in or out
      pub alone : (m : Side) (here : ℕ) (f : Function) → slice_get p.functions here ≡ Some f
          → (seen : List ℕ) → simple_fits p here (result_type p.blocks f.result) w seen ≡ true
          → is_talk w ≡ false → (l n : ℕ) (s : Known N) (x y : State)
          → SeenFrom (ConcretisesOneTyped p (ConcretisesOne D p ord)) m s x y
          → IfLeft (way_of w)
          (λ x'. TransferIsExact (λ t. ConcretisesOneBeside (ConcretisesOne D p ord) m t x'.memory y.memory)
          ((cell_ops D p ord).simple (One m) f.result w s))
          (does (ord m) p uncounted f.result w l n x)
      -- both machines, where nothing is put in, and what they put out is equal
      pub both : (here : ℕ) (f : Function) → slice_get p.functions here ≡ Some f
          → (seen : List ℕ) → simple_fits p here (result_type p.blocks f.result) w seen ≡ true
          → is_input w ≡ false → (l n m : ℕ) (s : Known N) (x y : State)
          → ConcretisesOneTyped p (ConcretisesOne D p ord) s x y
          → IfBothLeft (way_of w)
          (λ x' y'. x'.outputs ≡ y'.outputs → TransferIsExact (λ t. ConcretisesOne D p ord t x'.memory y'.memory)
          ((cell_ops D p ord).simple Both f.result w s))
          (does (ord left) p uncounted f.result w l n x) (does (ord right) p uncounted f.result w l m y)

  -- the same in each program, of the statements that are meant
  abbrev pub StatementsAreExact : (Simple → Type 0) → Type 0
  StatementsAreExact Meant =
      KeepsSingles D → (p : Program) (ord : Side → Order) → IsTrue (is_well_formed p) → AreOther ord
      → ValuesAreOne D p ord → PlacesAreOne D p ord → (w : Simple) → Meant w → StatementIsExact p ord w
