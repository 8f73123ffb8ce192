-- What calls keep up to their bodies and after them, where a state stands for one pair of memories alone: no fault, and
-- the state after it stands for the machines' memories after it alone (C11 6.5.2.2p4, 6.8.6.4p3; this project's rules).
use Rattle.std.specs.Prelude.{◌≡◌, ℕ, true, List, Option, Some, slice_get, IsTrue}
use Rattle.ep_int.specs.declared.types.Order.{Order}
use Rattle.ep_domain.specs.Domain.{Ops}
use Rattle.ep_cells.specs.States.{Known}
use Rattle.ep_core.specs.Program.{Expr, Dest, Function, Program}
use Rattle.ep_core.specs.Exec.{State, on, received}
use Rattle.ep_core.specs.Runs.{Side, left, right}
use Rattle.ep_core.specs.WellFormed.{result_type, arguments_fit, takes_result, is_well_formed}
use Rattle.ep_pass.specs.States.{Both, One}
use Rattle.ep_pass.specs.Laws.{passes}
use Rattle.ep_transfers.specs.Cells.{cell_ops}
use Rattle.ep_closed_laws.specs.Exactly.{IfLeft, IfBothLeft, TransferIsExact, SeenFrom}
use Rattle.ep_closed_laws.specs.Closely.{ConcretisesOneTyped, ConcretisesOneBeside}
use Rattle.ep_singles.specs.Numbers.{KeepsSingles}
use Rattle.ep_single_states.specs.Laws.{ConcretisesOne}
use Rattle.ep_single_values.specs.Laws.{ValuesAreOne, PlacesAreOne}

module _ {N : Type 0} (D : Ops N) where
  module _ (p : Program) (ord : Side → Order) where
    pub record CallsAreExact : Type 0 where
      -- arguments go to parameters, on one machine alone and on both
      pub arguments_alone : (m : Side) (k : ℕ) (f : Function) → slice_get p.functions k ≡ Some f → (es : List Expr)
          (seen : List ℕ) → arguments_fit p.types p.blocks seen f.params es ≡ true → (l n : ℕ) (s : Known N)
          (x y : State) → SeenFrom (ConcretisesOneTyped p (ConcretisesOne D p ord)) m s x y
          → IfLeft on
          (λ x'. TransferIsExact (λ t. ConcretisesOneBeside (ConcretisesOne D p ord) m t x'.memory y.memory)
          ((cell_ops D p ord).arguments (One m) f es s))
          (passes (ord m) p f es l n x)
      pub arguments_both : (k : ℕ) (f : Function) → slice_get p.functions k ≡ Some f → (es : List Expr) (seen : List ℕ)
          → arguments_fit p.types p.blocks seen f.params es ≡ true → (l n m : ℕ) (s : Known N) (x y : State)
          → ConcretisesOneTyped p (ConcretisesOne D p ord) s x y
          → IfBothLeft on
          (λ x' y'. x'.outputs ≡ y'.outputs → TransferIsExact (λ t. ConcretisesOne D p ord t x'.memory y'.memory)
          ((cell_ops D p ord).arguments Both f es s))
          (passes (ord left) p f es l n x) (passes (ord right) p f es l m y)
      -- a result goes to its place
      pub result_alone : (m : Side) (k : ℕ) (f : Function) → slice_get p.functions k ≡ Some f → (d : Option Dest)
          (seen : List ℕ) → takes_result p.types p.blocks seen (result_type p.blocks f.result) d ≡ true → (l n : ℕ)
          (s : Known N) (x y : State) → SeenFrom (ConcretisesOneTyped p (ConcretisesOne D p ord)) m s x y
          → IfLeft on
          (λ x'. TransferIsExact (λ t. ConcretisesOneBeside (ConcretisesOne D p ord) m t x'.memory y.memory)
          ((cell_ops D p ord).result (One m) f d s))
          (received (ord m) p f.result d l n x)
      pub result_both : (k : ℕ) (f : Function) → slice_get p.functions k ≡ Some f → (d : Option Dest) (seen : List ℕ)
          → takes_result p.types p.blocks seen (result_type p.blocks f.result) d ≡ true → (l n m : ℕ) (s : Known N)
          (x y : State) → ConcretisesOneTyped p (ConcretisesOne D p ord) s x y
          → IfBothLeft on
          (λ x' y'. x'.outputs ≡ y'.outputs → TransferIsExact (λ t. ConcretisesOne D p ord t x'.memory y'.memory)
          ((cell_ops D p ord).result Both f d s))
          (received (ord left) p f.result d l n x) (received (ord right) p f.result d l m y)

  -- the same in each program
  abbrev pub EachCallIsExact : Type 0
  EachCallIsExact =
      KeepsSingles D → (p : Program) (ord : Side → Order) → IsTrue (is_well_formed p) → ValuesAreOne D p ord
      → PlacesAreOne D p ord → CallsAreExact p ord
