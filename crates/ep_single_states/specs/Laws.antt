-- What the operations on cells keep of states that stand for one pair of memories alone.
use Rattle.std.specs.Prelude.{ℕ, List, IsTrue}
use Rattle.ep_int.specs.declared.types.Order.{Order}
use Rattle.ep_int.specs.Memory.{Memory, killed}
use Rattle.ep_domain.specs.Domain.{Ops}
use Rattle.ep_cells.specs.States.{Known}
use Rattle.ep_core.specs.Program.{Program}
use Rattle.ep_core.specs.Runs.{Side}
use Rattle.ep_core.specs.WellFormed.{is_well_formed}
use Rattle.ep_pass.specs.States.{Both, One}
use Rattle.ep_evaluation.specs.Laws.{IsState}
use Rattle.ep_transfers.specs.Cells.{cell_ops}
use Rattle.ep_transfers.specs.Laws.{memories}
use Rattle.ep_closed_laws.specs.Closely.{ConcretisesOneBeside}
use Rattle.ep_singles.specs.Numbers.{KeepsSingles}
use Rattle.ep_singles.specs.Cells.{IsOne}

-- It is a state of these machines and this program, and stands for these two memories alone.
pub record ConcretisesOne {N : Type 0} (D : Ops N) (p : Program) (ord : Side → Order) (k : Known N) (m n : Memory)
    : Type 0 where
  pub state : IsState D p ord k
  pub one : IsOne D k (memories m n)

-- blocks that are entered and left, on one machine and on both
pub record BlocksKeepOne {N : Type 0} (D : Ops N) (p : Program) (ord : Side → Order) : Type 0 where
  pub enter_alone : (m : Side) (bs : List ℕ) (s : Known N) (j k : Memory) →
      ConcretisesOneBeside (ConcretisesOne D p ord) m s j k
      → ConcretisesOneBeside (ConcretisesOne D p ord) m ((cell_ops D p ord).enter (One m) bs s) (killed bs j) k
  pub leave_alone : (m : Side) (bs : List ℕ) (s : Known N) (j k : Memory) →
      ConcretisesOneBeside (ConcretisesOne D p ord) m s j k
      → ConcretisesOneBeside (ConcretisesOne D p ord) m ((cell_ops D p ord).leave (One m) bs s) (killed bs j) k
  pub enter_both : (bs : List ℕ) (s : Known N) (m k : Memory) → ConcretisesOne D p ord s m k
      → ConcretisesOne D p ord ((cell_ops D p ord).enter Both bs s) (killed bs m) (killed bs k)
  pub leave_both : (bs : List ℕ) (s : Known N) (m k : Memory) → ConcretisesOne D p ord s m k
      → ConcretisesOne D p ord ((cell_ops D p ord).leave Both bs s) (killed bs m) (killed bs k)

abbrev pub BlocksAreExact : {N : Type 0} → Ops N → Type 0
BlocksAreExact D = (p : Program) (ord : Side → Order) → IsTrue (is_well_formed p) → BlocksKeepOne D p ord

-- cells of both sides that surely hold one number become one
abbrev pub ResharesAreExact : {N : Type 0} → Ops N → Type 0
ResharesAreExact {N = N} D =
    KeepsSingles D → (p : Program) (ord : Side → Order) (s : Known N) (m k : Memory) → ConcretisesOne D p ord s m k
    → ConcretisesOne D p ord ((cell_ops D p ord).reshared s) m k
