-- What one write at one place a side keeps: the machines and their data model.
use Rattle.std.proofs.Common.{◌≡◌, Bool, true, false, ◌&&◌, if◌then◌else◌, [], ◌∷◌, refl, sym}
use Rattle.std.proofs.Common.{◌∙◌, subst}
use Rattle.ep_int.specs.declared.types.Order.{Order}
use Rattle.ep_int.specs.declared.types.Scalar.{Scalar}
use Rattle.ep_domain.specs.Domain.{Ops}
use Rattle.ep_cells.specs.States.{Known, AreCells}
use Rattle.ep_cells.specs.Meaning.{Memories}
use Rattle.ep_cell_ranges.specs.Spots.{Spot, all_spots}
use Rattle.ep_cell_ranges.proofs.Basics.{same_spot}
use Rattle.ep_core.specs.Program.{Program}
use Rattle.ep_core.specs.Runs.{Side}
use Rattle.ep_equalities.specs.declared.pair.Mode.{Mode}
use Rattle.ep_equalities.specs.declared.pair.Mode.TheVariants.{Both, Left, Right}
use Rattle.ep_transfers.specs.Writes.{Item, underway, write_shared, write_shared_each, write_both, write_now}
use Rattle.ep_evaluation.specs.Laws.{IsState}
use Rattle.ep_singles.specs.Cells.{IsOne}

module _ {N : Type 0} where
  -- states of the same machines
  pub record IsBeside (k j : Known N) : Type 0 where
    pub orders : j.orders ≡ k.orders
    pub model : j.model ≡ k.model

module _ {N : Type 0} (D : Ops N) where
  -- the same machines, and a state that stands for these memories alone
  pub record IsOneAfter (k j : Known N) (m : Memories) : Type 0 where
    pub beside : IsBeside k j
    pub one : IsOne D j m

  module _ (w : Scalar) (q r : Spot) (i : Item N) (k : Known N) where
    both_beside : (b : Bool) → (b ≡ true → q ≡ r)
        → IsBeside k (write_both D b w (record { left = q ∷ []; right = r ∷ [] }) (underway k i)).known
    both_beside true e =
        subst (λ t. IsBeside k (if t then write_shared D w q (underway k i)
        else write_shared_each D w (all_spots (q ∷ []) (r ∷ [])) (underway k i)).known) (sym (same_spot q r (e refl)))
        (record { orders = refl; model = refl })
    both_beside false e = record { orders = refl; model = refl }

    pub write_beside : (mode : Mode) (to : Bool) → (mode ≡ Both → (to && i.same) ≡ true → q ≡ r)
        → IsBeside k (write_now D mode to w (record { left = q ∷ []; right = r ∷ [] }) i k)
    write_beside Both to e = both_beside (to && i.same) (e refl)
    write_beside Left to e = record { orders = refl; model = refl }
    write_beside Right to e = record { orders = refl; model = refl }

-- a state of the same machines is one of this program
pub state_beside : {N : Type 0} (D : Ops N) (p : Program) (ord : Side → Order) (k j : Known N) → IsState D p ord k
    → IsBeside k j → AreCells j.model j.cells → IsState D p ord j
state_beside D p ord k j s b c = record { orders = b.orders ∙ s.orders; model = b.model ∙ s.model; cells = c }

pub same_beside : {N : Type 0} (k : Known N) → IsBeside k k
same_beside k = record { orders = refl; model = refl }

pub then_beside : {N : Type 0} (k j l : Known N) → IsBeside k j → IsBeside j l → IsBeside k l
then_beside k j l a b = record { orders = b.orders ∙ a.orders; model = b.model ∙ a.model }
