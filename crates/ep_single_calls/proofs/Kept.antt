-- States that stand for one pair of memories alone: blocks come on the running sides, and steps as transfers.
use Rattle.std.proofs.Common.{◌≡◌, ℕ, true, false, List, [], map, refl, sym, ap, ◌∙◌, subst}
use Rattle.ep_int.specs.declared.types.Model.{Model}
use Rattle.ep_int.specs.declared.types.Model.TheVariants.{Ilp32, Lp64}
use Rattle.ep_int.specs.declared.types.Order.{Order}
use Rattle.ep_int.specs.Memory.{Memory, killed}
use Rattle.ep_domain.specs.Domain.{Ops, Lawful}
use Rattle.ep_cells.specs.States.{Known}
use Rattle.ep_cells.specs.Meaning.{Memories}
use Rattle.ep_cell_ranges.specs.Tests.{is_model}
use Rattle.ep_core.specs.Program.{Program}
use Rattle.ep_core.specs.Exec.{State, Way, Outcome, leaves}
use Rattle.ep_core.specs.Runs.{Side, left, right}
use Rattle.ep_core.specs.Typed.{MemoryFits}
use Rattle.ep_core.specs.WellFormed.{is_well_formed}
use Rattle.ep_core.proofs.Bytes.{killed_bytes}
use Rattle.ep_equalities.specs.declared.pair.Mode.{Mode}
use Rattle.ep_equalities.specs.declared.pair.Mode.TheVariants.{Both, Left, Right}
use Rattle.ep_evaluation.specs.Given.{runs}
use Rattle.ep_evaluation.specs.Evaluation.{told}
use Rattle.ep_evaluation.specs.Laws.{memory_of, IsState}
use Rattle.ep_transfers.specs.Cells.{told_of, when_known, is_told_so, known_or_empty}
use Rattle.ep_transfers.specs.Transfers.{Stepped, entered}
use Rattle.ep_transfers.specs.Laws.{memories}
use Rattle.ep_transfers.proofs.Bound.{changed, fits_changed}
use Rattle.ep_transfers.proofs.Evaluated.{pair_of}
use Rattle.ep_closed_laws.specs.Exactly.{IsThere, IfLeft, IfBothLeft, TransferIsExact, SeenFrom}
use Rattle.ep_closed_laws.specs.Closely.{ConcretisesOneTyped}
use Rattle.ep_single_narrowed.specs.Laws.{IsKeptOne}
use Rattle.ep_single_states.specs.Laws.{ConcretisesOne}
use Rattle.ep_single_states.proofs.Blocks.{blocks_keep_one}
use Rattle.ep_single_calls.proofs.Machines.{if_halted, LeftWith, left_with, not_left}

-- ---- memories of the running sides

pub at_running : (mode : Mode) (s : Side) → runs mode s ≡ true → (f : Side → Memory → Memory) (m : Memories)
    → memory_of s (changed mode f m) ≡ f s (memory_of s m)
at_running Both left r f m = refl
at_running Both right r f m = refl
at_running Left left r f m = refl
at_running Left right r f m = absurd (cc)
at_running Right left r f m = absurd (cc)
at_running Right right r f m = refl

pub at_other : (mode : Mode) (s : Side) → runs mode s ≡ false → (f : Side → Memory → Memory) (m : Memories)
    → memory_of s (changed mode f m) ≡ memory_of s m
at_other Both s r f m = absurd (cc)
at_other Left left r f m = absurd (cc)
at_other Left right r f m = refl
at_other Right left r f m = refl
at_other Right right r f m = absurd (cc)

pub changed_then : (mode : Mode) (f g : Side → Memory → Memory) (m : Memories)
    → changed mode g (changed mode f m) ≡ changed mode (λ s z. g s (f s z)) m
changed_then Both f g m = refl
changed_then Left f g m = refl
changed_then Right f g m = refl

-- ---- what both machines come to

pub both_left : (k : Way) (A B : Type 0) (f : A → ℕ × State) (g : B → ℕ × State) (Q : State → State → Type 0)
    → ((a : A) (b : B) → Q (f a).1 (g b).1) → (c d : Outcome) → LeftWith A (λ a. leaves k (f a).0 (f a).1) c
    → LeftWith B (λ b. leaves k (g b).0 (g b).1) d → IfBothLeft k Q c d
both_left k A B f g Q h _ _ (left_with a) (left_with b) = (refl, (refl, h a b))
both_left k A B f g Q h _ d (left_with a) (not_left _ i) = (refl, if_halted k (λ y. Q (f a).1 y) d i)
both_left k A B f g Q h c d (not_left _ i) e = if_halted k (λ x. IfLeft k (λ y. Q x y) d) c i

pub one_left : (k : Way) (A : Type 0) (f : A → ℕ × State) (Q : State → Type 0) → ((a : A) → Q (f a).1) → (c : Outcome)
    → LeftWith A (λ a. leaves k (f a).0 (f a).1) c → IfLeft k Q c
one_left k A f Q h _ (left_with a) = (refl, h a)
one_left k A f Q h c (not_left _ i) = if_halted k Q c i

module _ {N : Type 0} (D : Ops N) (p : Program) (ord : Side → Order) where
  -- ---- states and machines

  pub kept_both : (k : Known N) (x y : State) → ConcretisesOneTyped p (ConcretisesOne D p ord) k x y
      → IsKeptOne D p ord k (memories x.memory y.memory)
  kept_both k x y h = record {
    kept = record { state = h.memories.state; holds = h.memories.one.holds; fits = fits };
    one = h.memories.one;
  }
    where
      fits : (s : Side) → MemoryFits p (memory_of s (memories x.memory y.memory))
      fits left = h.left_fits.memory
      fits right = h.right_fits.memory

  pub kept_seen : (i : Side) (k : Known N) (x y : State)
      → SeenFrom (ConcretisesOneTyped p (ConcretisesOne D p ord)) i k x y
      → IsKeptOne D p ord k (pair_of i x.memory y.memory)
  kept_seen left k x y h = kept_both k x y h
  kept_seen right k x y h = kept_both k y x h

  -- ---- it is told in the data model of the program

  itself : (d : Model) → is_model d d ≡ true
  itself Ilp32 = refl
  itself Lp64 = refl

  pub told_so : (k : Known N) → IsState D p ord k → is_told_so D p ord k ≡ true
  told_so k s = ap (λ d. is_model d p.types.model) s.model ∙ itself p.types.model

  pub told_exact : (P : Known N → Type 0) (k : Known N) → IsState D p ord k → (t : Stepped N) → t.faults ≡ []
      → IsThere P t.next → TransferIsExact P (told_of D (when_known (is_told_so D p ord k) t))
  told_exact P k s t q h =
      subst (λ b. TransferIsExact P (told_of D (when_known b t))) (sym (told_so k s))
      (record { faults = ap (map (told D)) q; next = h })

  -- ---- blocks come

  come : (mode : Mode) (bs : List ℕ) (k : Known N) (m n : Memory) → IsState D p ord k
      → ConcretisesOne D p ord (known_or_empty D p ord (is_told_so D p ord k) (entered D p mode bs k)) m n
      → ConcretisesOne D p ord (entered D p mode bs k) m n
  come mode bs k m n s h =
      subst (λ t. ConcretisesOne D p ord (known_or_empty D p ord t (entered D p mode bs k)) m n) (told_so k s) h

  one_of : (k : Known N) (m : Memories) → IsKeptOne D p ord k m → ConcretisesOne D p ord k m.left m.right
  one_of k m h = record { state = h.kept.state; one = h.one }

  module _ (law : Lawful D) (formed : is_well_formed p ≡ true) where
    one_come : (mode : Mode) (bs : List ℕ) (k : Known N) (m : Memories) → IsKeptOne D p ord k m
        → ConcretisesOne D p ord (entered D p mode bs k) (changed mode (λ s. killed bs) m).left
        (changed mode (λ s. killed bs) m).right
    one_come Both bs k m h =
        come Both bs k (killed bs m.left) (killed bs m.right) h.kept.state
        ((blocks_keep_one D law p ord formed).enter_both bs k m.left m.right (one_of k m h))
    one_come Left bs k m h =
        come Left bs k (killed bs m.left) m.right h.kept.state
        ((blocks_keep_one D law p ord formed).enter_alone left bs k m.left m.right (one_of k m h))
    one_come Right bs k m h =
        come Right bs k m.left (killed bs m.right) h.kept.state
        ((blocks_keep_one D law p ord formed).enter_alone right bs k m.right m.left (one_of k m h))

    pub entered_one : (mode : Mode) (bs : List ℕ) (k : Known N) (m : Memories) → IsKeptOne D p ord k m
        → IsKeptOne D p ord (entered D p mode bs k) (changed mode (λ s. killed bs) m)
    entered_one mode bs k m h =
        let e = one_come mode bs k m h in
        record {
          kept = record {
            state = e.state;
            holds = e.one.holds;
            fits = fits_changed p mode (λ s. killed bs) m h.kept.fits (λ s r z i. killed_bytes p bs z i);
          };
          one = e.one;
        }
