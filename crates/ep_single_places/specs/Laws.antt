-- Accesses, tests and comparisons where values can be one alone (C11 6.5.3.2p4, 6.5.9p6, 6.8.4.1p2; the values are this
-- project's rules).
use Rattle.std.specs.Prelude.{◌≡◌, ℕ, ◌+◌, ◌%◌, ◌<◌, ◌≤◌, Bool, true, false, not, List, [], ◌∷◌, slice_get, Option}
use Rattle.std.specs.Prelude.{Some, None}
use Rattle.ep_int.specs.declared.types.Cmp.{Cmp}
use Rattle.ep_int.specs.declared.types.Scalar.{Scalar}
use Rattle.ep_int.specs.declared.types.Scalar.TheVariants.{Pointer}
use Rattle.ep_int.specs.Types.{size_of}
use Rattle.ep_int.specs.Memory.{Value as Datum, pointer as into_block, has}
use Rattle.ep_domain.specs.Domain.{Ops}
use Rattle.ep_pointers.specs.Compare.{truths as these_truths}
use Rattle.ep_cells.specs.declared.cell.Value.{Value}
use Rattle.ep_cells.specs.States.{Known}
use Rattle.ep_cells.specs.Meaning.{Memories, Allows}
use Rattle.ep_core.specs.Exec.{is_true, pointers_compare}
use Rattle.ep_core.specs.Runs.{Side}
use Rattle.ep_equalities.specs.declared.pair.SideValue.{SideValue}
use Rattle.ep_evaluation.specs.Given.{cells_of}
use Rattle.ep_evaluation.specs.Operators.{may_be}
use Rattle.ep_evaluation.specs.Accesses.{spots, bounds_of, may_be_odd, is_unset, is_mixed}
use Rattle.ep_evaluation.specs.Evaluation.{pointer, targets_of, is_null, reads_at, load_side, truths}
use Rattle.ep_singles.specs.Cells.{IsOneValue, IsOne}
use Rattle.ep_singles.specs.Laws.{Finds}

-- the first is of the second truth
abbrev pub is_of_truth : Bool → Bool → Bool
is_of_truth b true = b
is_of_truth b false = not b

-- n bytes at an offset of a block are inside it, at a multiple of n
pub record IsPlaceFor (sizes : List ℕ) (b q n : ℕ) : Type 0 where
  pub size : ℕ
  pub of_block : slice_get sizes b ≡ Some size
  pub inside : q + n ≤ size
  pub aligned : q % n ≡ 0

module _ {N : Type 0} (D : Ops N) where
  -- it can be this pointer alone
  pub record IsOneInto (o : Option (Value N)) (b q : ℕ) : Type 0 where
    pub one : IsOneValue D o
    pub allowed : Allows D Pointer o false (Some (into_block b q))

  -- There is no fault, and this place alone.
  pub record IsOneAccess (sizes : List ℕ) (n : ℕ) (x : SideValue N) (b q : ℕ) : Type 0 where
    pub not_null : is_null D sizes (pointer D x) ≡ false
    pub inside : bounds_of D sizes n (targets_of D sizes (pointer D x)) ≡ None
    pub aligned : may_be_odd D n (targets_of D sizes (pointer D x)) ≡ false
    pub place : spots D sizes n n (targets_of D sizes (pointer D x)) ≡ (b, q) ∷ []

  abbrev pub AccessesAreOne : Type 0
  AccessesAreOne =
      (sizes : List ℕ) (n : ℕ) (x : SideValue N) (b q : ℕ) → IsOneInto x.value b q → 0 < n → IsPlaceFor sizes b q n
      → IsOneAccess sizes n x b q

  -- What is read has no undefined byte, and is one value, the one that the machine finds.
  pub record IsOneLoad (sizes : List ℕ) (w : Scalar) (k : Known N) (x : SideValue N) (s : Side) (v : Datum) : Type 0
    where
      pub set : is_unset (reads_at D sizes w k x s) ≡ false
      pub unmixed : is_mixed (reads_at D sizes w k x s) ≡ false
      pub one : IsOneValue D (load_side D sizes w k x s).value
      pub allowed : Allows D w (load_side D sizes w k x s).value false (Some v)

  abbrev pub LoadsAreOne : Type 0
  LoadsAreOne =
      (k : Known N) (m : Memories) → IsOne D k m → (s : Side) (w : Scalar) (sizes : List ℕ) (x : SideValue N) (b q : ℕ)
      → IsOneInto x.value b q → IsPlaceFor sizes b q (size_of k.model w) → (v : Datum)
      → Finds k m (cells_of s) b q w v → IsOneLoad sizes w k x s v

  -- a test has the truth of the one value alone
  abbrev pub TruthsAreOne : Type 0
  TruthsAreOne =
      (w : Scalar) (o : Option (Value N)) (u : Datum) → IsOneValue D o → Allows D w o false (Some u) → (t : Bool)
      → may_be D o t ≡ is_of_truth (is_true u) t

  -- two pointers compare as the machine's do, and in no other way
  abbrev pub ComparisonsAreOne : Type 0
  ComparisonsAreOne =
      (c : Cmp) (x y : SideValue N) (u v d : Datum) → IsOneValue D x.value → IsOneValue D y.value
      → Allows D Pointer x.value false (Some u) → Allows D Pointer y.value false (Some v)
      → pointers_compare c u v ≡ has d → truths D c x y ≡ these_truths (is_true d) (not (is_true d)) false
