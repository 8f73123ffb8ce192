-- Statements of machines that a state stands for alone: from a step without a fault to what a statement keeps, on one
-- machine and on both.
use Rattle.std.proofs.Common.{◌≡◌, ℕ, ℤ, Bool, true, false, List, [], map, Option, Some, None, is_some, refl}
use Rattle.std.proofs.Common.{ap}
use Rattle.ep_int.specs.declared.types.Order.{Order}
use Rattle.ep_int.specs.Memory.{Memory, Value as Datum, int, null, pointer, Kind, Found, has, faults}
use Rattle.ep_domain.specs.Domain.{Ops}
use Rattle.ep_cells.specs.declared.cell.Value.{Value}
use Rattle.ep_cells.specs.States.{Known}
use Rattle.ep_cells.specs.Meaning.{Memories}
use Rattle.ep_core.specs.Program.{Program}
use Rattle.ep_core.specs.Exec.{State, Way, Outcome, leaves, running, no_input, undefined_at, given, with_int, at_place}
use Rattle.ep_core.specs.Exec.{unless}
use Rattle.ep_core.specs.Runs.{Side, left, right}
use Rattle.ep_core.specs.Typed.{MemoryFits}
use Rattle.ep_equalities.specs.declared.pair.Mode.{Mode}
use Rattle.ep_equalities.specs.declared.pair.Mode.TheVariants.{Both}
use Rattle.ep_equalities.specs.declared.pair.Fault.{Fault}
use Rattle.ep_evaluation.specs.Given.{Given, alone, on}
use Rattle.ep_evaluation.specs.Evaluation.{told}
use Rattle.ep_evaluation.specs.Laws.{IsState, Machine, memory_of}
use Rattle.ep_transfers.specs.Places.{has_values}
use Rattle.ep_transfers.specs.Transfers.{Stepped, stepped, if_goes_on, after_faults}
use Rattle.ep_transfers.specs.Cells.{told_of, when_known, is_told_so}
use Rattle.ep_transfers.specs.Laws.{memories}
use Rattle.ep_transfers.proofs.Assigned.{on_all_by}
use Rattle.ep_transfers.proofs.Evaluated.{pair_of}
use Rattle.ep_transfers.proofs.Whole.{told_so}
use Rattle.ep_closed_laws.specs.Exactly.{IsThere, IfLeft, IfBothLeft, TransferIsExact, SeenFrom}
use Rattle.ep_closed_laws.specs.Closely.{ConcretisesOneTyped, ConcretisesOneBeside}
use Rattle.ep_singles.specs.Cells.{IsOneValue}
use Rattle.ep_single_states.specs.Laws.{ConcretisesOne}
use Rattle.ep_single_narrowed.specs.Laws.{IsKeptOne}
use Rattle.ep_single_given.specs.Laws.{FindAll, IsOneGiven}
use Rattle.ep_single_given.proofs.Given.{no_faults}

-- ---- outcomes

pub if_more : (k : Way) (P Q : State → Type 0) (c : Outcome) → ((x : State) → P x → Q x) → IfLeft k P c → IfLeft k Q c
if_more k P Q (leaves w n x) more h = (h.0, more x h.1)
if_more k P Q (running x) more h = tt
if_more k P Q (no_input x) more h = tt
if_more k P Q (undefined_at l j x) more h = tt

-- of both machines what holds of each
pub both_by : (k : Way) (P R : State → Type 0) (Q : State → State → Type 0) (c d : Outcome)
    → ((x y : State) → P x → R y → Q x y) → IfLeft k P c → IfLeft k R d → IfBothLeft k Q c d
both_by k P R Q c d more h i =
    if_more k P (λ x. IfLeft k (λ y. Q x y) d) c (λ x p. if_more k R (λ y. Q x y) d (λ y r. more x y p r) i) h

module _ (k : Way) (P : State → Type 0) (l : ℕ) (s : State) where
  -- with a value that is found
  pub if_given : (x : Found) (go : Datum → Outcome) → ((v : Datum) → x ≡ has v → IfLeft k P (go v))
      → IfLeft k P (given x l s go)
  if_given (has v) go h = h v refl
  if_given (faults j) go h = tt

  -- with a number
  pub if_int : (v : Datum) (go : ℤ → Outcome) → ((z : ℤ) → v ≡ int z → IfLeft k P (go z))
      → IfLeft k P (with_int v l s go)
  if_int (int z) go h = h z refl
  if_int null go h = tt
  if_int (pointer b q) go h = tt

  -- with a place
  pub if_place : (v : Datum) (go : ℕ → ℕ → Outcome) → ((b q : ℕ) → v ≡ pointer b q → IfLeft k P (go b q))
      → IfLeft k P (at_place v l s go)
  if_place (int z) go h = tt
  if_place null go h = tt
  if_place (pointer b q) go h = h b q refl

  -- where nothing is wrong
  pub if_unless : (o : Option Kind) (go : Outcome) → (o ≡ None → IfLeft k P go) → IfLeft k P (unless o l s go)
  if_unless None go h = h refl
  if_unless (Some j) go h = tt

-- ---- machines

-- what a running machine finds
pub find_both : (f : Side → Machine) (m : Memories) (u v : Datum) → f left m.left ≡ has u → f right m.right ≡ has v
    → FindAll Both f m
find_both f m u v a b left r = (u, a)
find_both f m u v a b right r = (v, b)

pub find_alone : (i : Side) (f : Side → Machine) (x y : Memory) (u : Datum) → f i x ≡ has u
    → FindAll (alone i) f (pair_of i x y)
find_alone left f x y u a left r = (u, a)
find_alone left f x y u a right r = absurd (let d : false ≡ true = r in cc)
find_alone right f x y u a left r = absurd (let d : false ≡ true = r in cc)
find_alone right f x y u a right r = (u, a)

module _ {N : Type 0} (D : Ops N) (p : Program) (ord : Side → Order) where
  pub kept_one : (s : Known N) (x y : State) → ConcretisesOneTyped p (ConcretisesOne D p ord) s x y
      → IsKeptOne D p ord s (memories x.memory y.memory)
  kept_one s x y h = record {
    kept = record { state = h.memories.state; holds = h.memories.one.holds; fits = λ i. fits i };
    one = h.memories.one;
  }
    where
      fits : (i : Side) → MemoryFits p (memory_of i (memories x.memory y.memory))
      fits left = h.left_fits.memory
      fits right = h.right_fits.memory

  pub kept_beside : (i : Side) (s : Known N) (x y : State)
      → SeenFrom (ConcretisesOneTyped p (ConcretisesOne D p ord)) i s x y
      → IsKeptOne D p ord s (pair_of i x.memory y.memory)
  kept_beside left s x y h = kept_one s x y h
  kept_beside right s x y h = kept_one s y x h

  -- ---- steps

  -- no fault, and what is known after it stands for these memories alone
  pub record StepIsExact (g : Stepped N) (m : Memories) : Type 0 where
    pub faults : g.faults ≡ []
    pub next : IsThere (λ t. ConcretisesOne D p ord t m.left m.right) g.next

  pub after_exact : (fs : List Fault) (g : Stepped N) (m : Memories) → fs ≡ [] → StepIsExact g m
      → StepIsExact (after_faults fs g) m
  after_exact fs g m e h = record { faults = no_faults fs g.faults e h.faults; next = h.next }

  pub goes_exact : (t : Bool) (k : Known N) (m : Memories) → t ≡ true → ConcretisesOne D p ord k m.left m.right
      → StepIsExact (stepped [] (if_goes_on t k)) m
  goes_exact true k m e h = record { faults = refl; next = h }
  goes_exact false k m e h = absurd (cc)

  told_exact : (P : Known N → Type 0) (t : Bool) (g : Stepped N) → t ≡ true → g.faults ≡ [] → IsThere P g.next
      → TransferIsExact P (told_of D (when_known t g))
  told_exact P true g e f h = record { faults = ap (map (told D)) f; next = h }
  told_exact P false g e f h = absurd (cc)

  pub exact_both : (s : Known N) (g : Stepped N) (m n : Memory) → IsState D p ord s → StepIsExact g (memories m n)
      → TransferIsExact (λ t. ConcretisesOne D p ord t m n) (told_of D (when_known (is_told_so D p ord s) g))
  exact_both s g m n i h =
      told_exact (λ t. ConcretisesOne D p ord t m n) (is_told_so D p ord s) g (told_so D p ord s i) h.faults h.next

  pub exact_beside : (i : Side) (s : Known N) (g : Stepped N) (m n : Memory) → IsState D p ord s
      → StepIsExact g (pair_of i m n)
      → TransferIsExact (λ t. ConcretisesOneBeside (ConcretisesOne D p ord) i t m n)
      (told_of D (when_known (is_told_so D p ord s) g))
  exact_beside left s g m n i h =
      told_exact (λ t. ConcretisesOne D p ord t m n) (is_told_so D p ord s) g (told_so D p ord s i) h.faults h.next
  exact_beside right s g m n i h =
      told_exact (λ t. ConcretisesOne D p ord t n m) (is_told_so D p ord s) g (told_so D p ord s i) h.faults h.next

  -- ---- values

  pub value_there : (o : Option (Value N)) → IsOneValue D o → is_some o ≡ true
  value_there None i = elim i [ ]
  value_there (Some v) i = refl

  pub values_there : (mode : Mode) (x : Given N) → IsOneGiven D mode x → has_values mode x.pair ≡ true
  values_there mode x h =
      on_all_by mode (λ s. is_some (on x.pair s).value) (λ s r. value_there (on x.pair s).value (h.each s r))
