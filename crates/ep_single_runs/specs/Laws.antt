-- Runs of bytes through pointers, where values can be one alone (C11 6.5.3.2p4; the values are this project's rules).
use Rattle.std.specs.Prelude.{◌≡◌, ℕ, ◌+◌, ◌<◌, ◌≤◌, false, List, [], ◌∷◌, slice_get, Some, None}
use Rattle.ep_domain.specs.Domain.{Ops}
use Rattle.ep_equalities.specs.declared.pair.SideValue.{SideValue}
use Rattle.ep_evaluation.specs.Accesses.{spots, bounds_of}
use Rattle.ep_evaluation.specs.Evaluation.{pointer, targets_of, is_null}
use Rattle.ep_single_places.specs.Laws.{IsOneInto}

module _ {N : Type 0} (D : Ops N) where
  -- There is no fault, and the run begins at this place alone.
  pub record IsOneRun (sizes : List ℕ) (n : ℕ) (x : SideValue N) (b q : ℕ) : Type 0 where
    pub not_null : is_null D sizes (pointer D x) ≡ false
    pub inside : bounds_of D sizes n (targets_of D sizes (pointer D x)) ≡ None
    pub place : spots D sizes n 1 (targets_of D sizes (pointer D x)) ≡ (b, q) ∷ []

  abbrev pub RunsAreOne : Type 0
  RunsAreOne =
      (sizes : List ℕ) (n : ℕ) (x : SideValue N) (b q size : ℕ) → IsOneInto D x.value b q → 0 < n
      → slice_get sizes b ≡ Some size → q + n ≤ size → IsOneRun sizes n x b q
