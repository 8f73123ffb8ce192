-- Tests, and the truths that are assumed of them, where a state stands for one pair of memories alone: no fault, and
-- just the truths that the machines have can be assumed (C11 6.8.4.1p2; this project's rules).
use Rattle.std.specs.Prelude.{◌≡◌, ◌⊎◌, ℕ, Bool, true, not, List, [], None, IsTrue}
use Rattle.ep_int.specs.declared.types.Order.{Order}
use Rattle.ep_domain.specs.Domain.{Ops}
use Rattle.ep_cells.specs.States.{Known}
use Rattle.ep_core.specs.Program.{Expr, Program}
use Rattle.ep_core.specs.Exec.{State}
use Rattle.ep_core.specs.Runs.{Side, left, right}
use Rattle.ep_core.specs.WellFormed.{is_tested, is_well_formed}
use Rattle.ep_pass.specs.States.{Both, One}
use Rattle.ep_pass.specs.Laws.{IsTruth, Fits, GoesOn}
use Rattle.ep_transfers.specs.Cells.{cell_ops}
use Rattle.ep_closed_laws.specs.Exactly.{IsThere, SeenFrom}
use Rattle.ep_closed_laws.specs.Closely.{ConcretisesOneTyped, ConcretisesOneBeside}
use Rattle.ep_singles.specs.Numbers.{KeepsSingles}
use Rattle.ep_single_states.specs.Laws.{ConcretisesOne}

module _ {N : Type 0} (D : Ops N) where
  module _ (p : Program) (ord : Side → Order) where
    pub record TestsKeepOne : Type 0 where
      -- one machine alone
      pub test_alone : (m : Side) (e : Expr) (seen : List ℕ) → is_tested p.types p.blocks seen e ≡ true
          → (t : Bool) (s : Known N) (x y : State) → SeenFrom (ConcretisesOneTyped p (ConcretisesOne D p ord)) m s x y
          → IsTruth p (ord m) e x.memory t
          → (((cell_ops D p ord).test (One m) e s).faults ≡ []) × GoesOn ((cell_ops D p ord).test (One m) e s).verdict
      pub assume_alone : (m : Side) (e : Expr) (seen : List ℕ) → is_tested p.types p.blocks seen e ≡ true
          → (t : Bool) (s : Known N) (x y : State) → SeenFrom (ConcretisesOneTyped p (ConcretisesOne D p ord)) m s x y
          → IsTruth p (ord m) e x.memory t
          → IsThere (λ r. ConcretisesOneBeside (ConcretisesOne D p ord) m r x.memory y.memory)
          ((cell_ops D p ord).assume_one m e t s)
          × ((cell_ops D p ord).assume_one m e (not t) s ≡ None)
      -- both machines
      pub test_both : (e : Expr) (seen : List ℕ) → is_tested p.types p.blocks seen e ≡ true
          → (t v : Bool) (s : Known N) (x y : State) → ConcretisesOneTyped p (ConcretisesOne D p ord) s x y
          → IsTruth p (ord left) e x.memory t → IsTruth p (ord right) e y.memory v
          → (((cell_ops D p ord).test Both e s).faults ≡ []) × Fits ((cell_ops D p ord).test Both e s).verdict t v
      pub assume_both : (e : Expr) (seen : List ℕ) → is_tested p.types p.blocks seen e ≡ true
          → (t v : Bool) (s : Known N) (x y : State) → ConcretisesOneTyped p (ConcretisesOne D p ord) s x y
          → IsTruth p (ord left) e x.memory t → IsTruth p (ord right) e y.memory v
          → IsThere (λ r. ConcretisesOne D p ord r x.memory y.memory) ((cell_ops D p ord).assume e t v s)
          × ((a b : Bool) → (a ≡ not t) ⊎ (b ≡ not v) → (cell_ops D p ord).assume e a b s ≡ None)

  abbrev pub TestsAreExact : Type 0
  TestsAreExact =
      KeepsSingles D → (p : Program) (ord : Side → Order) → IsTrue (is_well_formed p) → TestsKeepOne p ord
